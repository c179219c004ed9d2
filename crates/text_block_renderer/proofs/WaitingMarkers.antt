-- Markers that wait, where a run ends and until a line of text comes, by a call or under a row.
use Rattle.text_block_renderer.proofs.Common.{◌≡◌, ℕ, Bool, true, false, if◌then◌else◌, Option, Some, None, List, [], ◌∷◌, ◌++◌, map, flat_map, fold, refl, ap, sym, ◌∙◌, subst, arith, append_assoc}
use Rattle.text_block_renderer.proofs.Common.{append-nil, rules, AllZip, Each, or_parts, run_of, Entry, Item, Word, kept_items, has_character, words_of, trailing, word_slots, slots_of, HasNoEmptyLine}
use Rattle.text_block_renderer.proofs.Common.{names_in_run, marker_items, marker_run, without_spaces, Border, shown, IsNormal, HasBestLines, Decoration, Line, text, border, Open, Renderer, with_line}
use Rattle.text_block_renderer.proofs.Common.{block_width, may_overflow, open_run, line_padding, IsSound, done, run, block_lines, lines_at_end, names_at_end, after_flush, with_border, text_of_lines}
use Rattle.text_block_renderer.proofs.Common.{Call, Steps, Act, call, after_act, StaysLine, AreDrawnAmong, border_drawn, borders_drawn, DrawNone, items_so_far, FlushStands, first_text, BeginsWith}
use Rattle.text_block_renderer.proofs.Common.{WaitForText}
use Rattle.tbr_model.specs.Layout.{line_text, joined}
use Rattle.tbr_model.proofs.words.Items.{has_character-append}
use Rattle.tbr_model.proofs.words.KeptItems.{words_hold}
use Rattle.tbr_model.proofs.words.LinesHaveCharacters.{words_have}
use Rattle.tbr_renderer.proofs.FlushedBlocks.{flushes, FlushesBlock}
use Rattle.text_block_renderer.proofs.DrawnBorders.{end_alike, among_more, among_drawn, among_stay, none_among, none_drawn}
use Rattle.text_block_renderer.proofs.ActSteps.{calls_come}
use Rattle.text_block_renderer.proofs.AddedLines.{steps_grow}
use Rattle.text_block_renderer.proofs.LineContents.{marker_items-append, seen_flushed}
use Rattle.text_block_renderer.proofs.LastingLines.{all_stay, stay_on}
use Rattle.text_block_renderer.proofs.EndedEntries.{Texts, GoesOn, acts_on}
use Rattle.text_block_renderer.proofs.BroughtEntries.{end_stands, StandFor, at_unspaced, markers_stand, run_stands, waits_after, waits_after_kept}

-- ---- a run without a kept character

-- each word has one
no_word : {T : Type 0} (words : List (Word T)) (left : List (Item T)) → Each (λ w. has_character w.items ≡ true) words → has_character (flat_map (λ w. w.items) words ++ left) ≡ false → words ≡ []
no_word [] left have none = refl
no_word (w ∷ words) left have none = grind (arith, or_parts, has_character-append, append_assoc)

no_slots : {T : Type 0} (columns : ℕ → Option ℕ) (width : ℕ) (run : List (Entry T)) → has_character (kept_items columns run) ≡ false → slots_of columns width run ≡ []
no_slots columns width run none =
    ap (flat_map (word_slots columns width)) (no_word (words_of columns run) (trailing columns run) (words_have columns run) (ap has_character (words_hold columns run) ∙ none))

no_lines_laid : {X : Type 0} (ls : List (List X)) → joined ls ≡ [] → HasNoEmptyLine ls → ls ≡ []
no_lines_laid [] e full = refl
no_lines_laid ([] ∷ ls) e full = absurd (omega (arith, full.0))
no_lines_laid ((x ∷ l) ∷ ls) e full = cc

no_lines : {T : Type 0} (columns : ℕ → Option ℕ) (width : ℕ) (run : List (Entry T)) (texts : List (List (Item T))) →
    HasBestLines columns width run texts → has_character (kept_items columns run) ≡ false → texts ≡ []
no_lines columns width run texts h none = h.shown ∙ ap (map line_text) (no_lines_laid h.lines (h.best.legal.whole ∙ no_slots columns width run none) h.best.full)

-- ---- a flush

no_character : (T : Type 0) (names : List (List ℕ)) → has_character {A = T} (marker_items names) ≡ false
no_character T [] = refl
no_character T (name ∷ names) = no_character T names

normal_after : {T : Type 0} (names : List (List ℕ)) (run : List (Entry T)) → IsNormal run → IsNormal (marker_run names ++ run)
normal_after [] run h = h
normal_after (name ∷ names) run h = (tt, normal_after names run h)

module _ {D A : Type 0} (columns : ℕ → Option ℕ) where
  none_wait : (q : Renderer D A (List A)) (ts : List (List (Item (List A)))) → q.waiting ≡ [] → (fold (with_line columns) q ts).waiting ≡ []
  none_wait q [] e = e
  none_wait q (t ∷ ts) e = none_wait (with_line columns q t) ts refl

  -- what waited counts as the first of the run
  stand_flushed : (r s : Renderer D A (List A)) (o : Option (Open (List A))) → FlushesBlock columns r o s → IsSound columns r →
      (is : List (Item (List A))) × StandFor columns (is ++ marker_items s.waiting) (marker_run r.waiting ++ open_run o)
  stand_flushed r s None h sound =
      let alone = subst (StandFor {T = List A} columns (marker_items r.waiting)) (sym (append-nil (marker_run r.waiting))) (markers_stand columns r.waiting) in
      ([], subst (λ (q : Renderer D A (List A)). StandFor {T = List A} columns (marker_items q.waiting) (marker_run r.waiting ++ [])) (sym h) alone)
  stand_flushed r s (Some b) h sound =
      let (more, lines, ends) = end_alike columns r s [] b h in (
        text_of_lines more,
        end_stands columns (record r { lines = [] }) (record s { lines = more }) b
            (marker_run r.waiting) ends (record { space = sound.space; wide = sound.wide }) (markers_stand columns r.waiting),
      )

  kept : (r s : Renderer D A (List A)) (o : Option (Open (List A))) → FlushesBlock columns r o s → IsSound columns r → IsNormal (open_run o) →
      without_spaces (items_so_far s) ≡ without_spaces (items_so_far r) ++ kept_items columns (open_run o)
  kept r s None h sound normal = ap (λ (q : Renderer D A (List A)). without_spaces (items_so_far q)) h ∙ sym (append-nil (without_spaces (items_so_far r)))
  kept r s (Some b) h sound normal =
      ap (λ (q : Renderer D A (List A)). without_spaces (items_so_far q)) h.is ∙ seen_flushed without_spaces at_unspaced columns r b (lines_at_end columns r b) (names_at_end columns r b)
      ∙ ap (λ js. without_spaces (items_so_far r) ++ js)
      ((run_stands columns (block_width r) (may_overflow r) (run_of b.events) (lines_at_end columns r b) (names_at_end columns r b) (h.ends sound)).kept
      normal)

  trails : (r s : Renderer D A (List A)) (o : Option (Open (List A))) → FlushesBlock columns r o s → IsSound columns r → may_overflow r ≡ false → IsNormal (open_run o) →
      has_character (kept_items columns (open_run o)) ≡ true → marker_items s.waiting ≡ trailing columns (open_run o)
  trails r s None h sound narrow normal some = cc
  trails r s (Some b) h sound narrow normal some = go (lines_at_end columns r b) refl
    where
      names : List (List ℕ)
      names = names_at_end columns r b

      go : (ts : List (List (Item (List A)))) → lines_at_end columns r b ≡ ts → marker_items s.waiting ≡ trailing columns (run_of b.events)
      go [] e = search (rules, names, true, false, no_character)
      go (t ∷ ts) e = search (rules, names, none_wait)

  -- a block without lines: its markers wait after the others
  bare : (r s : Renderer D A (List A)) (o : Option (Open (List A))) → FlushesBlock columns r o s → IsSound columns r → may_overflow r ≡ false → IsNormal (open_run o) →
      has_character (kept_items columns (open_run o)) ≡ false → (s.lines ≡ r.lines) × (s.waiting ≡ r.waiting ++ names_in_run (open_run o))
  bare r s o h sound narrow normal none = grind (arith, append-nil, no_lines)

  pub flushes_stand : (r s : Renderer D A (List A)) → IsSound columns r → after_flush columns r ≡ done s → FlushStands columns (open_run r.block) r s
  flushes_stand r s sound h =
      let flushed = flushes columns r s h in
      let came = marker_run r.waiting ++ open_run r.block in
      let (is, all) = stand_flushed r s r.block flushed sound in
      record {
        waits = waits_after columns is s.waiting came all;
        waits_kept = λ normal. waits_after_kept columns is s.waiting came all (normal_after r.waiting (open_run r.block) normal);
        kept = kept r s r.block flushed sound;
        trails = trails r s r.block flushed sound;
        bare = bare r s r.block flushed sound;
      }

-- ---- until a line of text comes

-- A text, if one comes, begins with the markers that waited. If none does, the first that wait are these.
abbrev Waiting : {T : Type 0} → Option (List (Item T)) → List (List ℕ) → List (List ℕ) → Type 0
Waiting (Some is) old new = BeginsWith (marker_items old) is
Waiting None old new = BeginsWith old new

module _ {T : Type 0} where
  wait_longer : (ls ms : List (Line T)) (old between new : List (List ℕ)) → Waiting (first_text ls) old between → Waiting (first_text ms) between new → Waiting (first_text (ls ++ ms)) old new
  wait_longer [] ms old between new (rest, here) h = grind (arith, append_assoc, marker_items-append)
  wait_longer (text is ∷ ls) ms old between new g h = g
  wait_longer (border b ∷ ls) ms old between new g h = wait_longer ls ms old between new g h

  -- the first text of lines that stay, and their parts
  same_first : (ls ms : List (Line T)) → AllZip StaysLine ls ms → first_text ls ≡ first_text ms
  same_first [] [] h = refl
  same_first (text is ∷ ls) (text js ∷ ms) h = ap Some (sym h.0)
  same_first (border b ∷ ls) (border c ∷ ms) h = same_first ls ms h.1
  same_first (l ∷ ls) (m ∷ ms) h = absurd h.0
  same_first ls ms h = absurd h

  parted : (ls ms ns : List (Line T)) → AllZip StaysLine (ls ++ ms) ns → (front back : List (Line T)) × (ns ≡ front ++ back) × AllZip StaysLine ls front × AllZip StaysLine ms back
  parted [] ms ns h = ([], ns, refl, tt, h)
  parted (l ∷ ls) ms [] h = absurd h
  parted (l ∷ ls) ms (n ∷ ns) h = let (front, back, both, first, others) = parted ls ms ns h.1 in (n ∷ front, back, ap (λ os. n ∷ os) both, (h.0, first), others)

  -- as many lines as there were
  kept_are : (ls ks more others : List (Line T)) → AllZip StaysLine ls ks → ks ++ more ≡ ls ++ others → ks ≡ ls
  kept_are [] [] more others h e = refl
  kept_are (l ∷ ls) (k ∷ ks) more others h e = let same : ks ≡ ls = kept_are ls ks more others h.1 (cc) in cc
  kept_are ls ks more others h e = absurd h

module _ {D A : Type 0} (columns : ℕ → Option ℕ) where
  abbrev Waits : Renderer D A (List A) → Renderer D A (List A) → Type 0
  Waits r s = (more : List (Line (List A))) × (s.lines ≡ r.lines ++ more) × Waiting (first_text more) r.waiting s.waiting

  wait_on : (r q s : Renderer D A (List A)) → Waits r q → Waits q s → Waits r s
  wait_on r q s g h = (g.0 ++ h.0, h.1 ∙ ap (λ ls. ls ++ h.0) g.1 ∙ append_assoc r.lines g.0 h.0, wait_longer g.0 h.0 r.waiting q.waiting s.waiting g.2 h.2)

  -- no line came, and more markers may wait
  no_line_came : (r s : Renderer D A (List A)) (names : List (List ℕ)) → s.lines ≡ r.lines → s.waiting ≡ r.waiting ++ names → Waits r s
  no_line_came r s names lines waiting = ([], lines ∙ sym (append-nil r.lines), (names, waiting))

  on_one : (r s : Renderer D A (List A)) → s ≡ r → Waits r s
  on_one r s e = no_line_came r s [] (ap (λ (q : Renderer D A (List A)). q.lines) e) (ap (λ (q : Renderer D A (List A)). q.waiting) e ∙ sym (append-nil r.waiting))

  line_came : (r : Renderer D A (List A)) (t : List (Item (List A))) → Waits r (with_line columns r t)
  line_came r t = (_, refl, (_, append_assoc (marker_items r.waiting) t (line_padding columns r (marker_items r.waiting ++ t))))

  lines_came : (ts : List (List (Item (List A)))) (r : Renderer D A (List A)) → Waits r (fold (with_line columns) r ts)
  lines_came [] r = on_one r r refl
  lines_came (t ∷ ts) r = wait_on r (with_line columns r t) (fold (with_line columns) (with_line columns r t) ts) (line_came r t) (lines_came ts (with_line columns r t))

  flush_waits : (r s : Renderer D A (List A)) (o : Option (Open (List A))) → FlushesBlock columns r o s → Waits r s
  flush_waits r s None h = on_one r s h
  flush_waits r s (Some b) h =
      let ts = block_lines columns r b (lines_at_end columns r b) in
      let laid = fold (with_line columns) (record r { block = None }) ts in
      let last : Renderer D A (List A) = record laid { waiting = laid.waiting ++ names_at_end columns r b } in
      subst (λ (q : Renderer D A (List A)). Waits r q) (sym h.is) (wait_on r laid last (lines_came ts (record r { block = None })) (no_line_came laid last (names_at_end columns r b) refl refl))

  -- The lines stay, and these came after them, the rest of them and borders that were drawn as text.
  abbrev WaitsOn : Renderer D A (List A) → Renderer D A (List A) → Texts A → Type 0
  WaitsOn r s bs =
      (kept more rest : List (Line (List A))) × (s.lines ≡ kept ++ more) × AllZip StaysLine r.lines kept × AreDrawnAmong bs more rest × Waiting (first_text rest) r.waiting s.waiting

  waits_on : (r q s : Renderer D A (List A)) (bs : Texts A) → WaitsOn r q bs → Waits q s → WaitsOn r s bs
  waits_on r q s bs (kept, more, rest, lines, stay, among, g) h = (
    kept,
    more ++ h.0,
    rest ++ h.0,
    h.1 ∙ ap (λ ls. ls ++ h.0) lines ∙ append_assoc kept more h.0,
    stay,
    among_more bs more rest h.0 among,
    wait_longer rest h.0 r.waiting q.waiting s.waiting g h.2,
  )

  rule_waits : (r q : Renderer D A (List A)) (b : Border (List A)) (bs : Texts A) → WaitsOn r q bs → WaitsOn r (with_border columns q b) (bs ++ border_drawn columns q b)
  rule_waits r q b bs (kept, more, rest, lines, stay, among, g) =
      let is = (let shows = shown b.tag b in shows ++ line_padding columns q shows) in
      let after = λ (l : Line (List A)). ap (λ ls. ls ++ l ∷ []) lines ∙ append_assoc kept more (l ∷ []) in
      elim q.options.pad_block_width as (λ (pads : Bool). WaitsOn r (record q { lines = q.lines ++ (if pads then text is else border b) ∷ [] }) (bs ++ (if pads then is ∷ [] else []))) [
        | true ↦ (kept, more ++ text is ∷ [], rest, after (text is), stay, among_drawn bs more rest is among, g)
        | false ↦ (
          kept,
          more ++ border b ∷ [],
          rest ++ border b ∷ [],
          after (border b),
          stay,
          subst (λ cs. AreDrawnAmong cs (more ++ border b ∷ []) (rest ++ border b ∷ [])) (sym (append-nil bs)) (among_more bs more rest (border b ∷ []) among),
          wait_longer rest (border b ∷ []) r.waiting q.waiting q.waiting g ([], sym (append-nil q.waiting)),
        )
      ]

  lines_stay : (r q s : Renderer D A (List A)) (bs : Texts A) → AllZip StaysLine q.lines s.lines → s.waiting ≡ q.waiting → WaitsOn r q bs → WaitsOn r s bs
  lines_stay r q s bs stay waiting (kept, more, rest, lines, before, among, g) =
      let (front, back, both, first, others) = parted kept more s.lines (subst (λ ls. AllZip StaysLine ls s.lines) lines stay) in
      let (left, here, same) = among_stay bs more rest back among others in (
        front,
        back,
        left,
        both,
        stay_on r.lines kept front before first,
        here,
        subst (Waiting (first_text left) r.waiting) (sym waiting) (subst (λ o. Waiting o r.waiting q.waiting) (same_first rest left same) g),
      )

  waiting_goes_on : (r : Renderer D A (List A)) → GoesOn columns (λ s es bs. WaitsOn r s bs)
  waiting_goes_on r = record {
    flushed = λ q s b es bs h k. waits_on r q s bs k (flush_waits q s (Some b) h);
    laid = λ q t es bs k. waits_on r q (with_line columns q t) bs k (line_came q t);
    ruled = λ q b es bs k. rule_waits r q b bs k;
    stays = λ q s es bs stay waiting width options k. lines_stay r q s bs stay waiting k;
  }

  pub acts_wait : (decoration : Decoration D A) (acts : List (Act A)) (r s : Renderer D A (List A)) →
      run (after_act columns decoration) acts r ≡ done s → WaitForText (borders_drawn columns decoration acts r) r s
  acts_wait decoration acts r s h =
      let nothing : WaitsOn r r [] = (r.lines, [], [], sym (append-nil r.lines), all_stay r.lines, none_among [], ([], sym (append-nil r.waiting))) in
      let (kept, more, rest, lines, stay, among, k) = (acts_on columns (λ t es bs. WaitsOn r t bs) (waiting_goes_on r) decoration acts r s (open_run r.block) [] h ([], refl, nothing)).2 in
      record {
        kept = kept;
        more = more;
        lines = lines;
        stay = stay;
        rest = rest;
        among = among;
        stand = λ is first. subst (λ o. Waiting o r.waiting s.waiting) first k;
        wait = λ none. subst (λ o. Waiting o r.waiting s.waiting) none k;
      }

  pub acts_wait_all : (decoration : Decoration D A) (acts : List (Act A)) (r s : Renderer D A (List A)) →
      DrawNone columns decoration acts r → run (after_act columns decoration) acts r ≡ done s → WaitForText [] r s
  acts_wait_all decoration acts r s none h = subst (λ bs. WaitForText bs r s) (none_drawn columns decoration acts r s h none) (acts_wait decoration acts r s h)

  -- after calls alone all lines are as they were
  calls_keep : (decoration : Decoration D A) (calls : List (Call (List A))) (r s : Renderer D A (List A)) (bs : Texts A)
      → Steps columns decoration calls r s → (waits : WaitForText bs r s) → waits.kept ≡ r.lines
  calls_keep decoration calls r s bs h waits =
      let (more, lines) = steps_grow columns decoration calls r s h in kept_are r.lines waits.kept waits.more more waits.stay (sym waits.lines ∙ lines)

  pub calls_wait : (decoration : Decoration D A) (calls : List (Call (List A))) (r s : Renderer D A (List A)) → Steps columns decoration calls r s →
      (waits : WaitForText (borders_drawn columns decoration (map call calls) r) r s) × (waits.kept ≡ r.lines)
  calls_wait decoration calls r s h =
      let waits = acts_wait decoration (map call calls) r s (calls_come columns decoration calls r s [] h).0 in
      (waits, calls_keep decoration calls r s (borders_drawn columns decoration (map call calls) r) h waits)

  pub calls_wait_all : (decoration : Decoration D A) (calls : List (Call (List A))) (r s : Renderer D A (List A)) →
      DrawNone columns decoration (map call calls) r → Steps columns decoration calls r s →
      (waits : WaitForText [] r s) × (waits.kept ≡ r.lines)
  calls_wait_all decoration calls r s none h =
      let waits = acts_wait_all decoration (map call calls) r s none (calls_come columns decoration calls r s [] h).0 in
      (waits, calls_keep decoration calls r s [] h waits)
