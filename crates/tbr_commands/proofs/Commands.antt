-- What the code finds is what is read.
use Rattle.std.proofs.Common.{◌≡◌, ◌≢◌, ℕ, zero, suc, Bool, true, false, ◌||◌, ◌<◌, ◌==◌, if◌then◌else◌, List, [], ◌∷◌, ◌++◌, length, get_or, Option, Some, None, MatchResult, Result, Ok}
use Rattle.std.proofs.Common.{Err, IfSome, codes, arith, rules, refl, sym, ap, ◌∙◌, subst, inr}
use Rattle.std.specs.Borrow.{Bor}
use Rattle.std.proofs.lemmas.Bool.{false≢true}
use Rattle.std.specs.List.{list_any}
use Rattle.std.specs.Option.{option_map}
use Rattle.std.specs.Result.{result_ok}
use Rattle.std.specs.Str.{IsUtf8, is_utf8}
use Rattle.std.proofs.lemmas.Str.{IsUtf8-append, IsUtf8-from_ascii, IsUtf8-from_is_utf8, is_utf8-from_IsUtf8}
use Rattle.tbr_script.specs.Script.{IsText, backslash}
use Rattle.tbr_script.proofs.Texts.{plain_all}
use Rattle.tbr_script.proofs.Reading.{no_some, some_once, test, if_so, if_not, written_text}
use Rattle.tbr_commands.specs.Request.{text}
use Rattle.tbr_commands.specs.Command.{ask, link}
use Rattle.tbr_commands.specs.Read.{split_at_space, command_read, as_written}
use Rattle.tbr_commands.proofs.Reading.{no_byte, command_is_read}

-- ---- lines

pub unsplit : (bs : List ℕ) → ((i : ℕ) → i < length bs → get_or bs i 0 ≢ 32) → split_at_space bs ≡ None
unsplit [] none = refl
unsplit (b ∷ bs) none =
    if_not (b == 32) _ _ (no_byte b 32 (none 0 (omega arith))) ∙ ap (option_map (λ (p : List ℕ × List ℕ). (b ∷ p.0, p.1))) (unsplit bs (λ i lt. none (suc i) (omega arith)))

-- a line that is UTF-8 is read
pub read_utf8 : {X : Type 0} (read : List ℕ → Option X) (line : List ℕ) → IsUtf8 line → read line ≡ (if is_utf8 line then read line else None)
read_utf8 read line utf8 = sym (if_so (is_utf8 line) (read line) None (is_utf8-from_IsUtf8 line utf8))

-- and nothing of one that isn't
pub unread : {X : Type 0} (read : List ℕ → Option X) (line : List ℕ) → (IsUtf8 line → ⊥) → None ≡ (if is_utf8 line then read line else None)
unread read line other =
    test (is_utf8 line) (λ so. absurd (other (IsUtf8-from_is_utf8 line so))) (λ so. sym (if_not (is_utf8 line) (read line) None so))

-- ---- a text as it is written

any_backslash : (bytes : List ℕ) (i : ℕ) → i < length bytes → get_or bytes i 0 ≡ 92 → list_any (λ b. b == backslash) bytes ≡ true
any_backslash [] i lt is = absurd (omega (arith, lt))
any_backslash (b ∷ bytes) zero lt is = ap (λ c. (c == backslash) || list_any (λ d. d == backslash) bytes) is
any_backslash (b ∷ bytes) (suc i) lt is = ap (λ c. (b == backslash) || c) (any_backslash bytes i (omega (arith, lt)) is) ∙ go (b == backslash)
  where
    go : (c : Bool) → (c || true) ≡ true
    go true = refl
    go false = refl

no_backslash : (bytes : List ℕ) → ((i : ℕ) → i < length bytes → get_or bytes i 0 ≢ 92) → list_any (λ b. b == backslash) bytes ≡ false
no_backslash [] none = refl
no_backslash (b ∷ bytes) none = ap (λ c. c || list_any (λ d. d == backslash) bytes) (no_byte b backslash (none 0 (omega arith))) ∙ no_backslash bytes (λ i lt. none (suc i) (omega (arith, lt)))

-- a writing with a backslash
pub escaped : (bytes : List ℕ) (i : ℕ) → i < length bytes → get_or bytes i 0 ≡ 92 → None ≡ as_written bytes
escaped bytes i lt is = sym (if_so (list_any (λ b. b == backslash) bytes) _ _ (any_backslash bytes i lt is))

-- and one without
pub as_it_is : (bytes : List ℕ) → IsUtf8 bytes → ((i : ℕ) → i < length bytes → get_or bytes i 0 ≢ 92) → Some bytes ≡ as_written bytes
as_it_is bytes utf8 none = read_utf8 Some bytes utf8 ∙ sym (if_not (list_any (λ b. b == backslash) bytes) _ _ (no_backslash bytes none))

-- what is written so is a text of its own
means_itself : (bytes t : List ℕ) → as_written bytes ≡ Some t → IsUtf8 bytes × IsText bytes t
means_itself bytes t e =
    test (list_any (λ b. b == backslash) bytes) (λ any. absurd (no_some t (sym (if_so _ _ _ any) ∙ e)))
    (λ none.
    test (is_utf8 bytes)
    (λ so.
    let same = sym (some_once bytes t (sym (if_so (is_utf8 bytes) (Some bytes) None so) ∙ sym (if_not _ _ _ none) ∙ e)) in
    (IsUtf8-from_is_utf8 bytes so, subst (IsText bytes) same (written_text bytes bytes (plain_all bytes (λ i lt is. false≢true (sym none ∙ any_backslash bytes i lt is))))))
    (λ not. absurd (no_some t (sym (if_not (is_utf8 bytes) (Some bytes) None not) ∙ sym (if_not _ _ _ none) ∙ e))))

-- what holds of a text that is written so, where there is one
pub if_written : (P : List ℕ → Type 0) (r : Option (Bor (List ℕ))) (bytes : List ℕ) →
    option_map (λ s. s.now) r ≡ as_written bytes → ((t : List ℕ) → as_written bytes ≡ Some t → P t) → IfSome r (λ s. P s.now)
if_written P None bytes is holds = tt
if_written P (Some s) bytes is holds = holds s.now (sym is)

module _ (line bytes t : List ℕ) (e : as_written bytes ≡ Some t) where
  after_ascii : (word : List ℕ) → IsUtf8 word → line ≡ word ++ bytes → IsUtf8 line
  after_ascii word ascii is = subst IsUtf8 (sym is) (IsUtf8-append word bytes ascii (means_itself bytes t e).0)

  -- after the word of a text, and of a link
  pub plain_text : line ≡ codes "text " ++ bytes → command_read line ≡ Some (ask (text t))
  plain_text is = command_is_read line (ask (text t)) (record {
    utf8 = after_ascii (codes "text ") (IsUtf8-from_ascii (codes "text ") (search rules)) is;
    writes = inr (bytes, is, (means_itself bytes t e).1);
  })

  pub plain_link : line ≡ codes "link " ++ bytes → command_read line ≡ Some (link t)
  plain_link is = command_is_read line (link t) (record {
    utf8 = after_ascii (codes "link ") (IsUtf8-from_ascii (codes "link ") (search rules)) is;
    writes = (bytes, is, (means_itself bytes t e).1);
  })
