-- What a run of Normal mode has laid stays laid.
use Rattle.tbr_model.proofs.Common.{◌≡◌, ◌≢◌, ℕ, ◌≤◌, nat_lt, ◌&&◌, is_none, Option, None, Some, List, [], ◌∷◌, ◌++◌, fold, refl, ap, sym, ◌∙◌, append_assoc, append-nil, arith, Each, cond_both}
use Rattle.tbr_model.proofs.Common.{Normal, PreWrap, Entry, Item, glyph, item_width, is_blank, joined, Laid, extended, end_if_character, Event, run_of, Progress, Space, collapse, enter, step}
use Rattle.tbr_model.proofs.Common.{progress, finished, HasMode}
use Rattle.tbr_model.proofs.words.Items.{WaitsIn}
use Rattle.tbr_model.proofs.lists.Each.{each_front, each_back, each_append}
use Rattle.tbr_model.proofs.rule.LaidText.{text, text-extended, text-end_line, text-end_if_character}
use Rattle.tbr_model.proofs.rule.Walk.{KeptByRule, Waits, Stands, one_entered, run_ended, walked, run_walked}

-- all items that are laid have the property
abbrev pub AllLaid : {A : Type 0} → (Item A → Type 0) → Laid A → Type 0
AllLaid P l = Each (λ line. Each P line) l.done × Each P l.line

abbrev pub IsNarrowItem : {A : Type 0} → (ℕ → Option ℕ) → ℕ → Item A → Type 0
IsNarrowItem columns width i = item_width columns i ≤ width

module _ {A : Type 0} (P : Item A → Type 0) where
  all_joined : (ls : List (List (Item A))) → Each (λ line. Each P line) ls → Each P (joined ls)
  all_joined [] h = tt
  all_joined (l ∷ ls) h = each_append P l (joined ls) h.0 (all_joined ls h.1)

  all_lines : (ls : List (List (Item A))) → Each P (joined ls) → Each (λ line. Each P line) ls
  all_lines [] h = tt
  all_lines (l ∷ ls) h = (each_front P l (joined ls) h, all_lines ls (each_back P l (joined ls) h))

  -- what is laid, and more after it
  pub laid_after : (l m : Laid A) (is : List (Item A)) → text m ≡ text l ++ is → AllLaid P m → AllLaid P l × Each P is
  laid_after l m is e h = grind (arith, text, each_append, all_joined, each_front, all_lines, each_back)

  pub laid_end_if_character : (l : Laid A) → AllLaid P (end_if_character l) → AllLaid P l
  laid_end_if_character l h = (laid_after l (end_if_character l) [] (text-end_if_character l ∙ sym (append-nil (text l))) h).0

pub collapse_laid : {A : Type 0} (c : ℕ) (a : A) (p : Progress A) → (collapse c a p).laid ≡ p.laid
collapse_laid {A} c a p = cond_both (is_blank c && (nat_lt 0 p.laid.width && is_none p.space)) _ _ (λ (q : Progress A). q.laid ≡ p.laid) (λ _. refl) (λ _. refl)

module _ {A : Type 0} (columns : ℕ → Option ℕ) (width : ℕ) where
  -- more is laid after a text
  abbrev Grows : List (Item A) → Laid A → Type 0
  Grows base l = (is : List (Item A)) × (text l ≡ base ++ is)

  item_grows : (base : List (Item A)) (l : Laid A) (i : Item A) (n : ℕ) → Grows base l → Grows base (extended l (i ∷ []) n)
  item_grows base l i n r = (r.0 ++ i ∷ [], text-extended l (i ∷ []) n ∙ ap (λ (is : List (Item A)). is ++ i ∷ []) r.1 ∙ append_assoc base r.0 (i ∷ []))

  more_laid : (base : List (Item A)) → KeptByRule {A = A} columns width (HasMode Normal) (λ a. Unit {0}) (λ m. m ≢ PreWrap) ⊥ (λ es l w. Grows base l)
  more_laid base = record {
    tags = λ c a b m h. (tt, tt, λ e. (let never : Normal ≡ PreWrap = sym h ∙ e in cc));
    some = λ none. absurd none;
    bare = λ none es l w r h. absurd none;
    item = λ es l i w _ r. item_grows base l i (item_width columns i) r;
    wide = λ es l i w _ _ r. (let more = item_grows base l i (item_width columns i) r in (more.0, text-end_line (extended l (i ∷ []) (item_width columns i)) ∙ more.1));
    space = λ es l w a _ h r. item_grows base l (glyph 32 a) 1 r;
    ended = λ es l w r. (r.0, text-end_line l ∙ r.1);
    trims = λ never es l w r. absurd (never refl);
    white = λ _ es l i w _ r. r;
    joins = λ es l w c a b m x h either may r. r;
    marks = λ es l w name h r. r;
    lost = λ es l w c a b m _ r. r;
  }

  waits_untrimmed : (base : List (Item A)) (o : Option (Space A)) → WaitsIn Normal o → Waits (more_laid base) o
  waits_untrimmed base None h = tt
  waits_untrimmed base (Some s) h = (tt, λ e. (let never : Normal ≡ PreWrap = sym h ∙ e in cc))

  begins : (p : Progress A) → Waits (more_laid (text p.laid)) p.space → Stands (more_laid (text p.laid)) [] p
  begins p waits = record { laid = ([], sym (append-nil (text p.laid))); space = waits; flags = ((λ _ e. cc), (λ _ e. cc), (λ _ e. cc)) }

  -- after an entry, by further ones
  pub laid_next : (P : Item A → Type 0) (p : Progress A) (e : Entry A) (es : List (Event A)) → HasMode Normal e → Each (HasMode Normal) (run_of es) → WaitsIn Normal p.space →
      AllLaid P (fold (step columns width) (enter columns width p e) es).laid → AllLaid P (enter columns width p e).laid
  laid_next P p e es mode modes waits h =
      let q : Progress A = enter columns width p e in
      let first = one_entered (more_laid (text p.laid)) [] p e mode (begins p (waits_untrimmed (text p.laid) p.space waits)) in
      let r = (walked (more_laid (text q.laid)) es [] q modes (begins q first.space)).laid in
      (laid_after P q.laid (fold (step columns width) q es).laid r.0 r.1 h).0

  -- by the end of the run
  pub laid_before_end : (P : Item A → Type 0) (es : List (Event A)) → Each (HasMode Normal) (run_of es) →
      AllLaid P (finished columns width (progress columns width es)) → AllLaid P (progress columns width es).laid
  laid_before_end P es modes h =
      let p : Progress A = progress columns width es in
      let r = run_ended (more_laid (text p.laid)) [] p (begins p (run_walked (more_laid []) es ([], refl) modes).space) in
      (laid_after P p.laid (finished columns width p) r.0 r.1 h).0
