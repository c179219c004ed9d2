-- Borders that were drawn as text, and what holds of a renderer with its lines less these.
use Rattle.text_block_renderer.proofs.Common.{◌≡◌, ℕ, inl, inr, Bool, true, false, if◌then◌else◌, Option, None, List, [], ◌∷◌, ◌++◌, map, flat_map, fold, refl, ap, sym, ◌∙◌, subst, append_assoc}
use Rattle.text_block_renderer.proofs.Common.{append-nil, arith, AllZip, map-append, flat_map-append, run_of, Entry, Item, Border, shown, Decoration, Line, text, border, Open, Renderer, RenderOptions}
use Rattle.text_block_renderer.proofs.Common.{line_padding, with_line, IsSound, marker_items, block_lines, flushed, lines_at_end, names_at_end, with_border, laid_entries, run, done, open_run, Act}
use Rattle.text_block_renderer.proofs.Common.{after_act, StaysLine, as_it_is, drawn, line_put, not_drawn, text_drawn, AreDrawnAmong, WithoutDrawnBorders, border_drawn, borders_drawn, DrawNone}
use Rattle.text_block_renderer.specs.Drawn.{Put}
use Rattle.tbr_renderer.proofs.FlushedBlocks.{EndsBlock}
use Rattle.text_block_renderer.proofs.Moves.{Frame, sound_alike, frame_ended, sound_ended}
use Rattle.text_block_renderer.proofs.EndedEntries.{Texts, GoesOn, acts_on}

-- ---- lines less borders

module _ {T : Type 0} where
  -- more lines after lines
  pub among_both : (bs cs : List (List (Item T))) (ls ms ks ns : List (Line T)) → AreDrawnAmong bs ls ks → AreDrawnAmong cs ms ns → AreDrawnAmong (bs ++ cs) (ls ++ ms) (ks ++ ns)
  among_both bs cs ls ms ks ns g h = (
    g.0 ++ h.0,
    ap (λ us. us ++ ms) g.1 ∙ ap (λ us. map line_put g.0 ++ us) h.1 ∙ sym (map-append line_put g.0 h.0),
    ap (λ us. us ++ cs) g.2 ∙ ap (λ us. flat_map text_drawn g.0 ++ us) h.2 ∙ sym (flat_map-append text_drawn g.0 h.0),
    ap (λ us. us ++ ns) g.3 ∙ ap (λ us. flat_map not_drawn g.0 ++ us) h.3 ∙ sym (flat_map-append not_drawn g.0 h.0),
  )

  pub none_among : (ls : List (Line T)) → AreDrawnAmong [] ls ls
  none_among [] = ([], refl, refl, refl)
  none_among (l ∷ ls) = among_both [] [] (l ∷ []) ls (l ∷ []) ls (as_it_is l ∷ [], refl, refl, refl) (none_among ls)

  -- lines that aren't drawn after them
  pub among_more : (bs : List (List (Item T))) (ls ks more : List (Line T)) → AreDrawnAmong bs ls ks → AreDrawnAmong bs (ls ++ more) (ks ++ more)
  among_more bs ls ks more h = subst (λ cs. AreDrawnAmong cs (ls ++ more) (ks ++ more)) (append-nil bs) (among_both bs [] ls more ks more h (none_among more))

  -- and one that is
  pub among_drawn : (bs : List (List (Item T))) (ls ks : List (Line T)) (is : List (Item T)) → AreDrawnAmong bs ls ks → AreDrawnAmong (bs ++ is ∷ []) (ls ++ text is ∷ []) ks
  among_drawn bs ls ks is h = subst (AreDrawnAmong (bs ++ is ∷ []) (ls ++ text is ∷ [])) (append-nil ks) (among_both bs (is ∷ []) ls (text is ∷ []) ks [] h (drawn is ∷ [], refl, refl, refl))

  all_put : (puts : List (Put T)) → [] ≡ flat_map text_drawn puts → flat_map not_drawn puts ≡ map line_put puts
  all_put [] none = refl
  all_put (as_it_is l ∷ puts) none = ap (λ ls. l ∷ ls) (all_put puts none)
  all_put (drawn is ∷ puts) none = absurd (let no : ⊥ = cc in no)

  -- where none is drawn the rest is all
  pub all_are_left : (ls ks : List (Line T)) → AreDrawnAmong [] ls ks → ks ≡ ls
  all_are_left ls ks (puts, lines, none, rest) = rest ∙ all_put puts none ∙ sym lines

  puts_stay : (puts : List (Put T)) (ms : List (Line T)) → AllZip StaysLine (map line_put puts) ms →
      (qs : List (Put T)) × (ms ≡ map line_put qs) × (flat_map text_drawn puts ≡ flat_map text_drawn qs) × AllZip StaysLine (flat_map not_drawn puts) (flat_map not_drawn qs)
  puts_stay [] [] h = ([], refl, refl, tt)
  puts_stay (as_it_is l ∷ puts) (m ∷ ms) h = let (qs, are, same, stay) = puts_stay puts ms h.1 in (as_it_is m ∷ qs, ap (λ ns. m ∷ ns) are, same, (h.0, stay))
  puts_stay (drawn is ∷ puts) (text js ∷ ms) h =
      let (qs, are, same, stay) = puts_stay puts ms h.1 in
      (drawn js ∷ qs, ap (λ ns. text js ∷ ns) are, ap (λ ks. ks ∷ flat_map text_drawn puts) (sym h.0) ∙ ap (λ ts. js ∷ ts) same, stay)
  puts_stay (drawn is ∷ puts) (border b ∷ ms) h = absurd h.0
  puts_stay puts ms h = absurd h

  -- lines that stay
  pub among_stay : (bs : List (List (Item T))) (ls ks ms : List (Line T)) → AreDrawnAmong bs ls ks → AllZip StaysLine ls ms → (ns : List (Line T)) × AreDrawnAmong bs ms ns × AllZip StaysLine ks ns
  among_stay bs ls ks ms (puts, lines, drawn_are, rest) h =
      let (qs, are, same, stay) = puts_stay puts ms (subst (λ us. AllZip StaysLine us ms) lines h) in
      (flat_map not_drawn qs, (qs, are, drawn_are ∙ same, refl), subst (λ us. AllZip StaysLine us (flat_map not_drawn qs)) (sym rest) stay)

module _ {D A : Type 0} (columns : ℕ → Option ℕ) where
  -- the renderer with other lines
  abbrev on : Renderer D A (List A) → List (Line (List A)) → Renderer D A (List A)
  on r ls = record r { lines = ls }

  -- lines come alike, whatever lines there are
  come_alike : (ts : List (List (Item (List A)))) (r : Renderer D A (List A)) (ls : List (Line (List A))) →
      (more : List (Line (List A))) × ((fold (with_line columns) r ts).lines ≡ r.lines ++ more) × (fold (with_line columns) (on r ls) ts ≡ on (fold (with_line columns) r ts) (ls ++ more))
  come_alike [] r ls = ([], sym (append-nil r.lines), ap (on r) (sym (append-nil ls)))
  come_alike (t ∷ ts) r ls =
      let put_line = (let marked = marker_items r.waiting ++ t in text (marked ++ line_padding columns r marked)) in
      let (more, lines, others) = come_alike ts (with_line columns r t) (ls ++ put_line ∷ []) in
      (put_line ∷ more, lines ∙ append_assoc r.lines (put_line ∷ []) more, others ∙ ap (on (fold (with_line columns) (with_line columns r t) ts)) (append_assoc ls (put_line ∷ []) more))

  -- a run ends alike too
  pub end_alike : (r s : Renderer D A (List A)) (ls : List (Line (List A))) (b : Open (List A)) →
      EndsBlock columns r b s →
      (more : List (Line (List A))) × (s.lines ≡ r.lines ++ more) × EndsBlock columns (on r ls) b (on s (ls ++ more))
  end_alike r s ls b h =
      let (more, lines, others) = come_alike (block_lines columns r b (lines_at_end columns r b)) (record r { block = None }) ls in
      let same : on s (ls ++ more) ≡ flushed columns (on r ls) (block_lines columns r b (lines_at_end columns r b)) (names_at_end columns r b) = grind arith in
      (more, ap (λ (q : Renderer D A (List A)). q.lines) h.is ∙ lines, record { fits = h.fits; ends = λ sound. h.ends (record { space = sound.space; wide = sound.wide }); is = same })

  -- ---- what goes on to hold of the lines less borders drawn as text

  -- What goes on to hold, where a border that is put stays one.
  pub record Keeps (Q : Renderer D A (List A) → List (Entry (List A)) → Type 0) : Type 0 where
    pub flushed : (r s : Renderer D A (List A)) (b : Open (List A)) (es : List (Entry (List A))) → EndsBlock columns r b s → IsSound columns r → Q r es → Q s (es ++ run_of b.events)
    pub laid : (r : Renderer D A (List A)) (t : List (Item (List A))) (es : List (Entry (List A))) → Q r es → Q (with_line columns r t) (es ++ laid_entries t)
    pub ruled : (r : Renderer D A (List A)) (b : Border (List A)) (es : List (Entry (List A))) → Q r es → Q (record r { lines = r.lines ++ border b ∷ [] }) es
    pub stays : (r s : Renderer D A (List A)) (es : List (Entry (List A))) → AllZip StaysLine r.lines s.lines → s.waiting ≡ r.waiting → Q r es → Q s es

  module _ (Q : Renderer D A (List A) → List (Entry (List A)) → Type 0) (keeps : Keeps Q) where
    abbrev Less : Renderer D A (List A) → List (Entry (List A)) → Texts A → Type 0
    Less r es bs = WithoutDrawnBorders bs (λ q. Q q es) r

    flushed_less : (r s : Renderer D A (List A)) (b : Open (List A)) (es : List (Entry (List A))) (bs : Texts A) →
        EndsBlock columns r b s → IsSound columns r → Less r es bs → Less s (es ++ run_of b.events) bs
    flushed_less r s b es bs h sound (rest, among, k) =
        let (more, lines, ends) = end_alike r s rest b h in
        let sound_on : IsSound columns (on r rest) = record { space = sound.space; wide = sound.wide } in
        (rest ++ more, subst (λ ls. AreDrawnAmong bs ls (rest ++ more)) (sym lines) (among_more bs r.lines rest more among), keeps.flushed (on r rest) (on s (rest ++ more)) b es ends sound_on k)

    laid_less : (r : Renderer D A (List A)) (t : List (Item (List A))) (es : List (Entry (List A))) (bs : Texts A) → Less r es bs → Less (with_line columns r t) (es ++ laid_entries t) bs
    laid_less r t es bs (rest, among, k) =
        let marked = marker_items r.waiting ++ t in
        let more = text (marked ++ line_padding columns r marked) ∷ [] in
        (rest ++ more, among_more bs r.lines rest more among, keeps.laid (on r rest) t es k)

    ruled_less : (r : Renderer D A (List A)) (b : Border (List A)) (es : List (Entry (List A))) (bs : Texts A) → Less r es bs → Less (with_border columns r b) es (bs ++ border_drawn columns r b)
    ruled_less r b es bs (rest, among, k) =
        let is = (let shows = shown b.tag b in shows ++ line_padding columns r shows) in
        elim r.options.pad_block_width as (λ (pads : Bool). Less (record r { lines = r.lines ++ (if pads then text is else border b) ∷ [] }) es (bs ++ (if pads then is ∷ [] else []))) [
          | true ↦ (rest, among_drawn bs r.lines rest is among, k)
          | false ↦ (
            rest ++ border b ∷ [],
            subst (λ cs. AreDrawnAmong cs (r.lines ++ border b ∷ []) (rest ++ border b ∷ [])) (sym (append-nil bs)) (among_more bs r.lines rest (border b ∷ []) among),
            keeps.ruled (on r rest) b es k,
          )
        ]

    stays_less : (r s : Renderer D A (List A)) (es : List (Entry (List A))) (bs : Texts A) → AllZip StaysLine r.lines s.lines → s.waiting ≡ r.waiting → Less r es bs → Less s es bs
    stays_less r s es bs stay waiting (rest, among, k) =
        let (left, here, same) = among_stay bs r.lines rest s.lines among stay in
        (left, here, keeps.stays (on r rest) (on s left) es same waiting k)

    -- of a sound renderer
    abbrev pub SoundLess : Renderer D A (List A) → List (Entry (List A)) → Texts A → Type 0
    SoundLess r es bs = IsSound columns r × Less r es bs

    pub less_goes_on : GoesOn columns SoundLess
    less_goes_on = record {
      flushed = λ r s b es bs h k. (sound_ended columns r s b h k.0, flushed_less r s b es bs h k.0 k.1);
      laid = λ r t es bs k. (record { space = k.0.space; wide = k.0.wide }, laid_less r t es bs k.1);
      ruled = λ r b es bs k. (record { space = k.0.space; wide = k.0.wide }, ruled_less r b es bs k.1);
      stays = λ r s es bs stay waiting width options k. (sound_alike columns r s width options k.0, stays_less r s es bs stay waiting k.1);
    }

  -- ---- where none is drawn

  module _ (decoration : Decoration D A) where
    -- where lines aren't padded
    abbrev NoneYet : Renderer D A (List A) → List (Entry (List A)) → Texts A → Type 0
    NoneYet r es bs = (r.options.pad_block_width ≡ false) × (bs ≡ [])

    none_yet : GoesOn columns NoneYet
    none_yet = record {
      flushed = λ r s b es bs h k. (ap (λ (o : RenderOptions). o.pad_block_width) (ap (λ (f : Frame A). f.options) (frame_ended columns r s b h)) ∙ k.0, k.1);
      laid = λ r t es bs k. k;
      ruled = λ r b es bs k. (k.0, ap (λ cs. cs ++ border_drawn columns r b) k.1 ∙ rw k.0 refl);
      stays = λ r s es bs stay waiting width options k. (ap (λ (o : RenderOptions). o.pad_block_width) options ∙ k.0, k.1);
    }

    pub none_drawn : (acts : List (Act A)) (r s : Renderer D A (List A)) →
        run (after_act columns decoration) acts r ≡ done s → DrawNone columns decoration acts r →
        borders_drawn columns decoration acts r ≡ []
    none_drawn acts r s h (inr none) = none
    none_drawn acts r s h (inl unpadded) = (acts_on columns NoneYet none_yet decoration acts r s (open_run r.block) [] h ([], refl, (unpadded, refl))).2.1

    -- what holds of the lines less those that are drawn then holds of all lines
    pub holds_of_all : (P : Renderer D A (List A) → Type 0) (acts : List (Act A)) (r s : Renderer D A (List A)) →
        run (after_act columns decoration) acts r ≡ done s → DrawNone columns decoration acts r →
        WithoutDrawnBorders (borders_drawn columns decoration acts r) P s → P s
    holds_of_all P acts r s h none k =
        let (rest, among, holds) = subst (λ bs. WithoutDrawnBorders bs P s) (none_drawn acts r s h none) k in
        subst (λ ls. P (on s ls)) (all_are_left s.lines rest among) holds
