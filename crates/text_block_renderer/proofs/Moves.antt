-- The moves of which calls consist. What holds of lists of calls is shown move by move.
use Rattle.text_block_renderer.proofs.Common.{◌≡◌, ◌<◌, ℕ, done, told_by, after_block, flush_adds, Bool, Option, None, List, [], ◌∷◌, ◌++◌, flat_map, fold, refl, ap, sym, ◌∙◌, subst, append-nil}
use Rattle.text_block_renderer.proofs.Common.{arith, ⊤, flat_map-append, Each, Event, run_of, Entry, Item, without_holes, Overhanging, RenderOptions, block_lines, lines_at_end, Open, Renderer}
use Rattle.text_block_renderer.proofs.Common.{with_line, with_events, block_width, IsSound, with_border, Call, laid_entries, Part, laid, ruled, flush_ends, AppendsNothing}
use Rattle.tbr_model.specs.declared.white_space.WhiteSpace.{WhiteSpace}
use Rattle.tbr_border.specs.Cell.{Cell}
use Rattle.tbr_renderer.proofs.FlushedBlocks.{EndsBlock, FlushesBlock, Flushes, beside, lines_beside, flush_beside}
use Rattle.tbr_renderer.proofs.CallParts.{FlushesThen}

-- Each with the renderer that it comes to: the end of the open run; a line of text or a border, where no block is open. Or what comes to the open
-- block, or a change of what isn't text.
pub data Move (D A : Type 0) : Type 0 where
  flush : Renderer D A (List A) → Move D A
  line : Renderer D A (List A) → List (Item (List A)) → Move D A
  rule : Renderer D A (List A) → List Cell → Move D A
  join : List (Event (List A)) → Move D A
  turn : Move D A

-- the same lines, open block and waiting markers, in a renderer that wraps alike
pub record SameText {D A : Type 0} (r s : Renderer D A (List A)) : Type 0 where
  pub lines : s.lines ≡ r.lines
  pub block : s.block ≡ r.block
  pub waiting : s.waiting ≡ r.waiting
  pub width : s.width ≡ r.width
  pub options : s.options ≡ r.options
  pub hanging : s.hanging ≡ r.hanging

-- and so it is where nothing else is changed
pub alike : {D A : Type 0} (r : Renderer D A (List A)) {ended : Bool} {annotations : List A} {modes : List WhiteSpace} {strikeouts preformatted : ℕ} {d : D} →
    SameText r (record r { block_ended = ended; annotations = annotations; modes = modes; strikeouts = strikeouts; preformatted = preformatted; decorator = d })
alike r = record { lines = refl; block = refl; waiting = refl; width = refl; options = refl; hanging = refl }

abbrev pub brought_by : {D A : Type 0} → Move D A → List (Entry (List A))
brought_by (line q is) = laid_entries is
brought_by (join es) = run_of es
brought_by other = []

abbrev pub brought : {D A : Type 0} → List (Move D A) → List (Entry (List A))
brought ms = flat_map brought_by ms

-- the borders that moves put
abbrev pub ruled_by : {D A : Type 0} → Move D A → List (List Cell)
ruled_by (rule q cells) = cells ∷ []
ruled_by other = []

abbrev pub borders : {D A : Type 0} → List (Move D A) → List (List Cell)
borders ms = flat_map ruled_by ms

-- what moves add
abbrev pub added_by : {D A : Type 0} → Move D A → List (Part D A)
added_by (flush r) = flush_ends r
added_by (line r is) = laid r is ∷ []
added_by (rule r cells) = ruled r cells ∷ []
added_by other = []

abbrev pub added : {D A : Type 0} → List (Move D A) → List (Part D A)
added ms = flat_map added_by ms

-- ---- kinds

-- Moves of any calls, and of calls that append nothing.
pub data Kind : Type 0 where
  any : Kind
  own : Kind

-- calls of a kind
abbrev pub Fits : {T : Type 0} → Kind → List (Call T) → Type 0
Fits any calls = ⊤
Fits own calls = Each AppendsNothing calls

-- whether their moves may put borders, and the lines of text that they may lay
abbrev pub MayRule : Kind → Type 0
MayRule any = ⊤
MayRule own = ⊥

abbrev pub MayLay : {T : Type 0} → Kind → List (Item T) → Type 0
MayLay any is = ⊤
MayLay own is = is ≡ []

-- ---- paths

-- a renderer that wraps alike is sound too
pub sound_alike : {D A : Type 0} (columns : ℕ → Option ℕ) (r q : Renderer D A (List A)) → q.width ≡ r.width → q.options ≡ r.options → IsSound columns r → IsSound columns q
sound_alike columns r q width options sound = record { space = sound.space; wide = subst (λ n. 0 < n) (let same : block_width r ≡ block_width q = cc in same) sound.wide }

-- what no call changes
pub record Frame (A : Type 0) : Type 0 where
  pub width : ℕ
  pub options : RenderOptions
  pub hanging : List (Overhanging (List A))

abbrev pub frame : {D A : Type 0} → Renderer D A (List A) → Frame A
frame r = record { width = r.width; options = r.options; hanging = r.hanging }

module _ {D A : Type 0} (columns : ℕ → Option ℕ) where
  -- the end of a run changes no width and no option
  pub frame_ended : (r s : Renderer D A (List A)) (b : Open (List A)) → EndsBlock columns r b s → frame s ≡ frame r
  frame_ended r s b h =
      ap (λ (q : Renderer D A (List A)). frame q) h.is
      ∙ ap (λ (q : Renderer D A (List A)). frame q)
      (lines_beside columns (block_lines columns r b (lines_at_end columns r b)) (record r { block = None }))

  pub sound_ended : (r s : Renderer D A (List A)) (b : Open (List A)) → EndsBlock columns r b s → IsSound columns r → IsSound columns s
  sound_ended r s b h sound =
      let same = frame_ended r s b h in sound_alike columns r s (ap (λ (f : Frame A). f.width) same) (ap (λ (f : Frame A). f.options) same) sound

  pub flush_done : (r s : Renderer D A (List A)) (o : Option (Open (List A))) → FlushesBlock columns r o s → after_block columns r o ≡ done s
  flush_done r s o h = grind arith

module _ {D A : Type 0} (columns : ℕ → Option ℕ) (kind : Kind) where
  abbrev pub Makes : Move D A → Renderer D A (List A) → Renderer D A (List A) → Type 0
  Makes (flush q) r s = (q ≡ r) × Flushes columns r s
  Makes (line q is) r s = MayLay kind is × (r.block ≡ None) × (s ≡ with_line columns r is) × (q ≡ r)
  Makes (rule q cells) r s = MayRule kind × (r.block ≡ None) × (s ≡ with_border columns r (without_holes cells r.annotations)) × (q ≡ r)
  Makes (join es) r s = s ≡ with_events r es
  Makes turn r s = SameText r s

  abbrev pub MakesAll : List (Move D A) → Renderer D A (List A) → Renderer D A (List A) → Type 0
  MakesAll [] r s = s ≡ r
  MakesAll (m ∷ ms) r s = (q : Renderer D A (List A)) × Makes m r q × MakesAll ms q s

  -- Some moves lead from one renderer to the other, bring these entries, put these borders, and add this.
  pub record Course (r s : Renderer D A (List A)) (es : List (Entry (List A))) (bs : List (List Cell)) (xs : List (Part D A)) : Type 0 where
    pub moves : List (Move D A)
    pub makes : MakesAll moves r s
    pub brings : brought moves ≡ es
    pub rules : borders moves ≡ bs
    pub adds : added moves ≡ xs

  pub makes-append : (ms ns : List (Move D A)) (r q s : Renderer D A (List A)) → MakesAll ms r q → MakesAll ns q s → MakesAll (ms ++ ns) r s
  makes-append [] ns r q s h k = subst (λ (p : Renderer D A (List A)). MakesAll ns p s) h k
  makes-append (m ∷ ms) ns r q s h k = (h.0, h.1, makes-append ms ns h.0 q s h.2 k)

  pub onward : (r q s : Renderer D A (List A)) (es fs : List (Entry (List A))) {bs cs : List (List Cell)}
      {xs ys : List (Part D A)} → Course r q es bs xs → Course q s fs cs ys →
      Course r s (es ++ fs) (bs ++ cs) (xs ++ ys)
  onward r q s es fs {bs} {cs} {xs} {ys} p k = grind (arith, makes-append, flat_map-append)

  pub one : (m : Move D A) (r s : Renderer D A (List A)) → Makes m r s → Course r s (brought_by m) (ruled_by m) (added_by m)
  one m r s h = record { moves = m ∷ []; makes = (s, h, refl); brings = append-nil (brought_by m); rules = append-nil (ruled_by m); adds = append-nil (added_by m) }

  -- the same by other words
  pub same_course : (r s : Renderer D A (List A)) {es fs : List (Entry (List A))} {bs cs : List (List Cell)}
      {xs ys : List (Part D A)} → es ≡ fs → bs ≡ cs → xs ≡ ys → Course r s es bs xs → Course r s fs cs ys
  same_course r s brings rules adds p = record { moves = p.moves; makes = p.makes; brings = p.brings ∙ brings; rules = p.rules ∙ rules; adds = p.adds ∙ adds }

  -- the end of the open run, and then a change
  pub flushed_first : (change : Renderer D A (List A) → Renderer D A (List A))
      (adds : Renderer D A (List A) → List (Part D A)) (r s : Renderer D A (List A)) (es : List (Entry (List A)))
      {bs : List (List Cell)}
      (h : FlushesThen columns change r s) → Course h.0 (change h.0) es bs (adds h.0) → Course r s es bs (flush_adds columns adds r)
  flushed_first change adds r s es {bs} h course =
      subst (λ o. Course r s es bs (flush_ends r ++ told_by adds o)) (sym (flush_done columns r h.0 r.block h.1))
      (onward r h.0 s [] es (one (flush r) r h.0 (refl, h.1)) (subst (λ (q : Renderer D A (List A)). Course h.0 q es bs (adds h.0)) (sym h.2) course))

  -- `q` is `r` but for what isn't text
  pub turned : (r q s : Renderer D A (List A)) → SameText r q → s ≡ q → Course r s [] [] []
  turned r q s same is = one turn r s (subst (λ (p : Renderer D A (List A)). SameText r p) (sym is) same)

  pub stays : (r s : Renderer D A (List A)) → s ≡ r → Course r s [] [] []
  stays r s h = record { moves = []; makes = h; brings = refl; rules = refl; adds = refl }

  -- A relation that goes on, and that each move has, calls have.
  pub through : (R : Renderer D A (List A) → Renderer D A (List A) → Type 0) →
      ((r s : Renderer D A (List A)) → s ≡ r → R r s) →
      ((r q s : Renderer D A (List A)) → R r q → R q s → R r s) →
      ((m : Move D A) (r s : Renderer D A (List A)) → Makes m r s → R r s) →
      (ms : List (Move D A)) (r s : Renderer D A (List A)) → MakesAll ms r s → R r s
  through R same on each [] r s h = same r s h
  through R same on each (m ∷ ms) r s h = on r h.0 s (each m r h.0 h.1) (through R same on each ms h.0 s h.2)

  -- ---- width, options, and the cells that overhang

  pub move_frame : (m : Move D A) (r s : Renderer D A (List A)) → Makes m r s → frame s ≡ frame r
  move_frame m r s h = grind (arith, flush_beside)

  -- a sound renderer stays so
  pub sound_moved : (m : Move D A) (r s : Renderer D A (List A)) → Makes m r s → IsSound columns r → IsSound columns s
  sound_moved m r s h sound = grind (arith, move_frame, sound_alike)

  pub path_frame : (r s : Renderer D A (List A)) (es : List (Entry (List A))) (bs : List (List Cell)) {xs : List (Part D A)} → Course r s es bs xs → frame s ≡ frame r
  path_frame r s es bs {xs} path =
      through (λ p q. frame q ≡ frame p) (λ p q e. ap (λ (t : Renderer D A (List A)). frame t) e) (λ p q t g h. h ∙ g) move_frame path.moves r s path.makes

  pub path_hanging : (r s : Renderer D A (List A)) (es : List (Entry (List A))) (bs : List (List Cell)) {xs : List (Part D A)} → Course r s es bs xs → s.hanging ≡ r.hanging
  path_hanging r s es bs {xs} path = ap (λ (f : Frame A). f.hanging) (path_frame r s es bs path)
