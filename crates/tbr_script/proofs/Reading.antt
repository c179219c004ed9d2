-- What is read is what is written.
use Rattle.std.proofs.Common.{◌≡◌, ◌≢◌, ℕ, zero, suc, ◌^◌, ◌<◌, ◌≤◌, ◌==◌, ◌&&◌, Bool, true, false, if◌then◌else◌, Option, None, Some, List, [], ◌∷◌, ◌++◌, length, take, drop, flat_map}
use Rattle.std.proofs.Common.{encode_utf8, codes, refl, sym, ap, ◌∙◌, subst, inl, inr, arith, append_assoc, append-nil, get_or, lit≤, rules}
use Rattle.std.specs.Bool.{Decides}
use Rattle.std.specs.Prelude.{nat_lt}
use Rattle.std.specs.Char.{digit_value, IsScalar}
use Rattle.std.specs.List.{AllByRecursion as Each}
use Rattle.std.specs.Option.{option_map, option_and_then, SomeIff}
use Rattle.std.specs.Str.{bytes_eq, all_scalars}
use Rattle.std.specs.Str.Parse.{AllDigits, IsNumeral, digits_value}
use Rattle.std.proofs.lemmas.Bool.{false≢true, eqb-true}
use Rattle.std.proofs.lemmas.Bool.Decides.{Decides-and, Decides-like, Decides-ltb, nat_tests}
use Rattle.std.proofs.lemmas.List.{take-append-drop}
use Rattle.std.proofs.lemmas.Slice.Eq.{bytes_eq-Decides}
use Rattle.tbr_script.specs.Script.{backslash, character_by_letter, bar, IsNumber, IsSize, IsByte, NamesCharacter, IsEscape, Piece, itself, escape, IsPiece, written, meant, IsText, AreSplitTexts}
use Rattle.tbr_script.specs.Read.{when, all_digits, is_numeral, is_number, number_read, size_read, byte_read, names_character, character_read, TextPlace, in_text, in_escape, at_brace}
use Rattle.tbr_script.specs.Read.{in_braces, with_character, read_from, text_read, split_at_bar, texts_read}

-- ---- options

module _ {X : Type 0} where
  pub some_once : (x y : X) → Some x ≡ Some y → y ≡ x
  some_once x y e = cc

  pub no_some : (x : X) → None ≡ Some x → ⊥
  no_some x e = cc

  pub when_so : (b : Bool) (x y : X) → b ≡ true → y ≡ x → when b x ≡ Some y
  when_so true x y so same = ap Some (sym same)
  when_so false x y so same = absurd (false≢true so)

  pub so_when : (b : Bool) (x y : X) → when b x ≡ Some y → (b ≡ true) × (y ≡ x)
  so_when true x y is = (refl, some_once x y is)
  so_when false x y is = absurd (no_some y is)

  pub if_so : (b : Bool) (x y : X) → b ≡ true → (if b then x else y) ≡ x
  if_so true x y so = refl
  if_so false x y so = absurd (false≢true so)

  pub if_not : (b : Bool) (x y : X) → b ≡ false → (if b then x else y) ≡ y
  if_not true x y not = absurd (false≢true (sym not))
  if_not false x y not = refl

-- one of two, by a test
pub test : {P : Type 0} (b : Bool) → (b ≡ true → P) → (b ≡ false → P) → P
test true so else_so = so refl
test false so else_so = else_so refl

pub mapped : {X Y : Type 0} (f : X → Y) (o : Option X) (y : Y) → option_map f o ≡ Some y → (x : X) × (o ≡ Some x) × (y ≡ f x)
mapped f None y is = absurd (no_some y is)
mapped f (Some x) y is = (x, refl, some_once (f x) y is)

pub followed : {X Y : Type 0} (f : X → Option Y) (o : Option X) (y : Y) → option_and_then f o ≡ Some y → (x : X) × (o ≡ Some x) × (f x ≡ Some y)
followed f None y is = absurd (no_some y is)
followed f (Some x) y is = (x, refl, is)

-- ---- numbers

digits_decide : (radix : ℕ) (ds : List ℕ) → Decides (all_digits radix ds) (AllDigits radix ds)
digits_decide radix [] = (λ _. tt, λ _. refl)
digits_decide radix (c ∷ cs) = Decides-and _ (all_digits radix cs) (Decides-ltb (digit_value c) radix) (digits_decide radix cs)

numeral_decides : (radix : ℕ) (ds : List ℕ) → Decides (is_numeral radix ds) (IsNumeral radix ds)
numeral_decides radix ds = Decides-and _ (all_digits radix ds) (Decides-ltb 0 (length ds)) (digits_decide radix ds)

number_decides : (ds : List ℕ) → Decides (is_number ds) (IsNumber ds)
number_decides ds = Decides-and (is_numeral 10 ds) _ (numeral_decides 10 ds) (Decides-ltb (digits_value 10 ds) (2 ^ 64))

byte_decides : (ds : List ℕ) → Decides (is_numeral 10 ds && nat_lt (digits_value 10 ds) (2 ^ 8)) (IsByte ds)
byte_decides ds = Decides-and (is_numeral 10 ds) _ (numeral_decides 10 ds) (Decides-ltb (digits_value 10 ds) (2 ^ 8))

scalar_decides : (c : ℕ) → Decides (all_scalars (c ∷ [])) (IsScalar c)
scalar_decides c = Decides-like (all_scalars (c ∷ [])) (λ h. h.0) (λ is. (is, tt)) (Decides-and {Q = Unit {0}} _ true ((λ e. e), (λ e. e)) ((λ _. tt), (λ _. refl)))

name_decides : (ds : List ℕ) → Decides (names_character ds) (NamesCharacter ds)
name_decides ds = search (rules, Decides-like, Decides-ltb, Decides-and, numeral_decides, scalar_decides)

-- what is so by a test is there by it
by_test : {X P : Type 0} (b : Bool) (x : X) (r : Option X) → Decides b P → SomeIff r P x → r ≡ when b x
by_test true x None d h = absurd (h (d.0 refl))
by_test true x (Some y) d h = ap Some h.1
by_test false x None d h = refl
by_test false x (Some y) d h = absurd (false≢true (d.1 h.0))

pub number_is : (ds : List ℕ) (r : Option ℕ) → SomeIff r (IsNumber ds) (digits_value 10 ds) → r ≡ number_read ds
number_is ds r = by_test (is_number ds) (digits_value 10 ds) r (number_decides ds)

pub byte_is : (ds : List ℕ) (r : Option ℕ) → SomeIff r (IsByte ds) (digits_value 10 ds) → r ≡ byte_read ds
byte_is ds r = by_test _ (digits_value 10 ds) r (byte_decides ds)

pub character_is : (ds : List ℕ) (r : Option ℕ) → SomeIff r (NamesCharacter ds) (digits_value 16 ds) → r ≡ character_read ds
character_is ds r = by_test (names_character ds) (digits_value 16 ds) r (name_decides ds)

pub number_written : (ds : List ℕ) (n : ℕ) → IsNumber ds × (n ≡ digits_value 10 ds) → number_read ds ≡ Some n
number_written ds n (is, same) = when_so (is_number ds) (digits_value 10 ds) n ((number_decides ds).1 is) same

pub written_number : (ds : List ℕ) (n : ℕ) → number_read ds ≡ Some n → IsNumber ds × (n ≡ digits_value 10 ds)
written_number ds n e = let (so, same) = so_when (is_number ds) (digits_value 10 ds) n e in ((number_decides ds).0 so, same)

pub size_written : (ds : List ℕ) (n : ℕ) → IsSize ds n → size_read ds ≡ Some n
size_written ds n (is, same, some) = search (rules, Decides-and, number_decides, Decides-ltb, when_so)

pub written_size : (ds : List ℕ) (n : ℕ) → size_read ds ≡ Some n → IsSize ds n
written_size ds n e = search (rules, Decides-and, number_decides, Decides-ltb, so_when)

pub byte_written : (ds : List ℕ) (n : ℕ) → IsByte ds × (n ≡ digits_value 10 ds) → byte_read ds ≡ Some n
byte_written ds n (is, same) = when_so _ (digits_value 10 ds) n ((byte_decides ds).1 is) same

pub written_byte : (ds : List ℕ) (n : ℕ) → byte_read ds ≡ Some n → IsByte ds × (n ≡ digits_value 10 ds)
written_byte ds n e = let (so, same) = so_when _ (digits_value 10 ds) n e in ((byte_decides ds).0 so, same)

-- ---- texts

pub eqb-of : (a b : ℕ) → a ≢ b → (a == b) ≡ false
eqb-of a b not = grind (arith, nat_tests, not)

-- what is no digit is not among digits
pub not_a_digit : (radix b : ℕ) (ds : List ℕ) → radix ≤ digit_value b → AllDigits radix ds → (i : ℕ) → i < length ds → get_or ds i 0 ≢ b
not_a_digit radix b [] h a i lt e = absurd (omega arith)
not_a_digit radix b (d ∷ ds) h a zero lt e = absurd (omega (arith, ap digit_value e, a.0))
not_a_digit radix b (d ∷ ds) h a (suc i) lt e = not_a_digit radix b ds h a.1 i (omega arith) e

-- digits in braces, up to the closing one
pub to_brace : (before ds rest : List ℕ) → ((i : ℕ) → i < length ds → get_or ds i 0 ≢ 125) → read_from (in_braces before) (ds ++ 125 ∷ rest) ≡ read_from (in_braces (before ++ ds)) (125 ∷ rest)
to_brace before [] rest none = ap (λ xs. read_from (in_braces xs) (125 ∷ rest)) (sym (append-nil before))
to_brace before (d ∷ ds) rest none =
    if_not (d == 125) _ _ (eqb-of d 125 (none 0 (omega arith))) ∙ to_brace (before ++ d ∷ []) ds rest (λ i lt. none (suc i) (omega arith))
    ∙ ap (λ xs. read_from (in_braces xs) (125 ∷ rest)) (append_assoc before (d ∷ []) ds)

-- bytes that mean themselves
plain : (xs ys text : List ℕ) → ((i : ℕ) → i < length xs → get_or xs i 0 ≢ 92) → IsText ys text → IsText (xs ++ ys) (xs ++ text)
plain [] ys text n t = t
plain (x ∷ xs) ys text n t =
    let rest = plain xs ys text (λ i lt. n (suc i) (omega arith)) t in
    record { pieces = itself x ∷ rest.pieces; each = (n 0 (omega arith), rest.each); writes = ap (λ zs. x ∷ zs) rest.writes; means = ap (λ zs. x ∷ zs) rest.means }

-- an escape
escaped : (form rest text : List ℕ) (c : ℕ) → IsEscape form c → IsText rest text → IsText (92 ∷ (form ++ rest)) (encode_utf8 c ++ text)
escaped form rest text c k t = record {
  pieces = escape form c ∷ t.pieces;
  each = (k, t.each);
  writes = ap (λ zs. 92 ∷ (form ++ zs)) t.writes;
  means = ap (λ zs. encode_utf8 c ++ zs) t.means;
}

pieces_read : (ps : List Piece) → Each IsPiece ps → read_from in_text (flat_map written ps) ≡ Some (flat_map meant ps)
pieces_read [] each = refl
pieces_read (itself b ∷ ps) each =
    if_not (b == backslash) _ _ (eqb-of b backslash each.0) ∙ ap (option_map (λ bytes. b ∷ bytes)) (pieces_read ps each.1)
pieces_read (escape form c ∷ ps) (inl (letter, form_is, means), each) =
    let no_u : letter ≢ 117 = λ u. no_some c (ap character_by_letter (sym u) ∙ means) in
    let rest = flat_map written ps in
    ap (λ f. read_from in_escape (f ++ rest)) form_is
    ∙ if_not (letter == 117) _ _ (eqb-of letter 117 no_u)
    ∙ ap (option_and_then (λ d. with_character d (read_from in_text rest))) means
    ∙ ap (with_character c) (pieces_read ps each)
pieces_read (escape form c ∷ ps) (inr (digits, form_is, names, is), each) =
    let rest = flat_map written ps in
    ap (λ f. read_from in_escape (f ++ rest)) form_is
    ∙ ap (read_from (in_braces [])) (append_assoc digits (125 ∷ []) rest)
    ∙ to_brace [] digits rest (not_a_digit 16 125 digits (lit≤ tt) names.0.1)
    ∙ ap (option_and_then (λ d. with_character d (read_from in_text rest))) (when_so (names_character digits) (digits_value 16 digits) c ((name_decides digits).1 names) is)
    ∙ ap (with_character c) (pieces_read ps each)

pub text_written : (writing text : List ℕ) → IsText writing text → text_read writing ≡ Some text
text_written writing text t = ap text_read (sym t.writes) ∙ pieces_read t.pieces t.each ∙ ap Some t.means

-- a byte that isn't a backslash
no_backslash : (b : ℕ) → (b == backslash) ≡ false → (i : ℕ) → i < length (b ∷ []) → get_or (b ∷ []) i 0 ≢ 92
no_backslash b not zero lt same = false≢true (sym not ∙ ap (λ x. x == backslash) same)
no_backslash b not (suc i) lt same = absurd (omega (arith, lt))

-- digits that name a character, and their closing brace
closed : (ds bs text : List ℕ) → ((rest : List ℕ) → read_from in_text bs ≡ Some rest → IsText bs rest) →
    option_and_then (λ c. with_character c (read_from in_text bs)) (character_read ds) ≡ Some text → IsText (92 ∷ 117 ∷ 123 ∷ (ds ++ 125 ∷ bs)) text
closed ds bs text later e =
    let (c, names, follows) = followed (λ d. with_character d (read_from in_text bs)) (character_read ds) text e in
    let (rest, reads, whole) = mapped (λ bytes. encode_utf8 c ++ bytes) (read_from in_text bs) text follows in
    let (so, is) = so_when (names_character ds) (digits_value 16 ds) c names in
    subst (IsText (92 ∷ 117 ∷ 123 ∷ (ds ++ 125 ∷ bs))) (sym whole)
    (subst (λ xs. IsText (92 ∷ 117 ∷ 123 ∷ xs) (encode_utf8 c ++ rest)) (append_assoc ds (125 ∷ []) bs)
    (escaped (codes "u{" ++ ds ++ codes "}") bs rest c (inr (ds, refl, (name_decides ds).0 so, is)) (later rest reads)))

-- what was read before a place
abbrev before : TextPlace → List ℕ
before in_text = []
before in_escape = 92 ∷ []
before at_brace = 92 ∷ 117 ∷ []
before (in_braces ds) = 92 ∷ 117 ∷ 123 ∷ ds

read_so : (place : TextPlace) (bs text : List ℕ) → read_from place bs ≡ Some text → IsText (before place ++ bs) text
read_so in_text [] text e = record { pieces = []; each = tt; writes = refl; means = sym (some_once [] text e) }
read_so in_escape [] text e = absurd (no_some text e)
read_so at_brace [] text e = absurd (no_some text e)
read_so (in_braces ds) [] text e = absurd (no_some text e)
read_so in_text (b ∷ bs) text e =
    test (b == backslash)
    (λ is. subst (λ x. IsText (x ∷ bs) text) (sym (eqb-true b backslash is)) (read_so in_escape bs text (sym (if_so (b == backslash) _ _ is) ∙ e)))
    (λ is.
    let (rest, reads, whole) = mapped (λ bytes. b ∷ bytes) (read_from in_text bs) text (sym (if_not (b == backslash) _ _ is) ∙ e) in
    subst (IsText (b ∷ bs)) (sym whole) (plain (b ∷ []) bs rest (no_backslash b is) (read_so in_text bs rest reads)))
read_so in_escape (b ∷ bs) text e =
    test (b == 117)
    (λ is. subst (λ x. IsText (92 ∷ x ∷ bs) text) (sym (eqb-true b 117 is)) (read_so at_brace bs text (sym (if_so (b == 117) _ _ is) ∙ e)))
    (λ is.
    let (c, means, follows) = followed (λ d. with_character d (read_from in_text bs)) (character_by_letter b) text (sym (if_not (b == 117) _ _ is) ∙ e) in
    let (rest, reads, whole) = mapped (λ bytes. encode_utf8 c ++ bytes) (read_from in_text bs) text follows in
    subst (IsText (92 ∷ b ∷ bs)) (sym whole) (escaped (b ∷ []) bs rest c (inl (b, refl, means)) (read_so in_text bs rest reads)))
read_so at_brace (b ∷ bs) text e =
    test (b == 123)
    (λ is. subst (λ x. IsText (92 ∷ 117 ∷ x ∷ bs) text) (sym (eqb-true b 123 is)) (read_so (in_braces []) bs text (sym (if_so (b == 123) _ None is) ∙ e)))
    (λ is. absurd (no_some text (sym (if_not (b == 123) _ None is) ∙ e)))
read_so (in_braces ds) (b ∷ bs) text e =
    test (b == 125)
    (λ is. subst (λ x. IsText (92 ∷ 117 ∷ 123 ∷ (ds ++ x ∷ bs)) text) (sym (eqb-true b 125 is))
    (closed ds bs text (λ rest reads. read_so in_text bs rest reads) (sym (if_so (b == 125) _ _ is) ∙ e)))
    (λ is. subst (λ xs. IsText (92 ∷ 117 ∷ 123 ∷ xs) text) (append_assoc ds (b ∷ []) bs) (read_so (in_braces (ds ++ b ∷ [])) bs text (sym (if_not (b == 125) _ _ is) ∙ e)))

pub written_text : (writing text : List ℕ) → text_read writing ≡ Some text → IsText writing text
written_text writing text e = read_so in_text writing text e

-- ---- two texts

-- nothing is a bar before the one that was found
pub record IsSplit (writing one other : List ℕ) : Type 0 where
  pub splits : writing ≡ one ++ (bar ++ other)
  pub first : (xs ys : List ℕ) → writing ≡ xs ++ (bar ++ ys) → length one ≤ length xs

is_bar : (bs : List ℕ) → bytes_eq (take 3 bs) bar ≡ true → bs ≡ bar ++ drop 3 bs
is_bar bs e = sym (take-append-drop 3 bs) ∙ ap (λ xs. xs ++ drop 3 bs) ((bytes_eq-Decides (take 3 bs) bar).0 e)

found_bar : (bs ys : List ℕ) → bs ≡ bar ++ ys → bytes_eq (take 3 bs) bar ≡ true
found_bar bs ys is = (bytes_eq-Decides (take 3 bs) bar).1 (ap (take 3) is)

earlier : (b : ℕ) (bs front : List ℕ) → ((xs ys : List ℕ) → bs ≡ xs ++ (bar ++ ys) → length front ≤ length xs) →
    bytes_eq (take 3 (b ∷ bs)) bar ≡ false → (xs ys : List ℕ) → b ∷ bs ≡ xs ++ (bar ++ ys) → length (b ∷ front) ≤ length xs
earlier b bs front first none [] ys w = absurd (false≢true (sym none ∙ found_bar (b ∷ bs) ys w))
earlier b bs front first none (x ∷ xs) ys w = omega (arith, first xs ys (let same : bs ≡ xs ++ (bar ++ ys) = cc w in same))

pub bar_split : (bs one other : List ℕ) → split_at_bar bs ≡ Some (one, other) → IsSplit bs one other
bar_split [] one other e = absurd (no_some (one, other) e)
bar_split (b ∷ bs) one other e =
    test (bytes_eq (take 3 (b ∷ bs)) bar)
    (λ is.
    let parts = some_once ([], drop 3 (b ∷ bs)) (one, other) (sym (if_so (bytes_eq (take 3 (b ∷ bs)) bar) _ _ is) ∙ e) in
    subst (λ (p : List ℕ × List ℕ). IsSplit (b ∷ bs) p.0 p.1) (sym parts) (record { splits = is_bar (b ∷ bs) is; first = λ xs ys w. omega arith }))
    (λ is.
    let (parts, later, whole) = mapped (λ (p : List ℕ × List ℕ). (b ∷ p.0, p.1)) (split_at_bar bs) (one, other) (sym (if_not (bytes_eq (take 3 (b ∷ bs)) bar) _ _ is) ∙ e) in
    let rest = bar_split bs parts.0 parts.1 later in
    let found : IsSplit (b ∷ bs) (b ∷ parts.0) parts.1 = record { splits = ap (λ xs. b ∷ xs) rest.splits; first = earlier b bs parts.0 rest.first is } in
    subst (λ (p : List ℕ × List ℕ). IsSplit (b ∷ bs) p.0 p.1) (sym whole) found)

-- where no bar is before it, a bar splits
pub split_written : (one other : List ℕ) → ((xs ys : List ℕ) → one ++ (bar ++ other) ≡ xs ++ (bar ++ ys) → length one ≤ length xs) → split_at_bar (one ++ (bar ++ other)) ≡ Some (one, other)
split_written [] other first = refl
split_written (b ∷ bs) other first =
    let rest = b ∷ (bs ++ (bar ++ other)) in
    let no_bar : bytes_eq (take 3 rest) bar ≡ false = test (bytes_eq (take 3 rest) bar) (λ is. absurd (omega (arith, first [] (drop 3 rest) (is_bar rest is)))) (λ is. is) in
    if_not (bytes_eq (take 3 rest) bar) _ _ no_bar
    ∙ ap (option_map (λ (p : List ℕ × List ℕ). (b ∷ p.0, p.1))) (split_written bs other (λ xs ys w. omega (arith, first (b ∷ xs) ys (ap (λ zs. b ∷ zs) w))))

pub texts_written : (writing one other : List ℕ) → AreSplitTexts writing one other → texts_read writing ≡ Some (one, other)
texts_written writing one other t =
    ap texts_read t.splits
    ∙ ap (option_and_then (λ (p : List ℕ × List ℕ). option_and_then (λ x. option_map (λ y. (x, y)) (text_read p.1))
    (text_read p.0))) (split_written t.before t.after (λ xs ys w. t.first xs ys (t.splits ∙ w)))
    ∙ ap (option_and_then (λ x. option_map (λ y. (x, y)) (text_read t.after))) (text_written t.before one t.one_is)
    ∙ ap (option_map (λ y. (one, y))) (text_written t.after other t.other_is)

pub written_texts : (writing one other : List ℕ) → texts_read writing ≡ Some (one, other) → AreSplitTexts writing one other
written_texts writing one other e =
    let (parts, split, reads) = followed _ (split_at_bar writing) (one, other) e in
    let (x, first, rest) = followed _ (text_read parts.0) (one, other) reads in
    let (y, second, whole) = mapped (λ z. (x, z)) (text_read parts.1) (one, other) rest in
    let found = bar_split writing parts.0 parts.1 split in
    let at = subst (λ (p : List ℕ × List ℕ). (text_read parts.0 ≡ Some p.0) × (text_read parts.1 ≡ Some p.1)) (sym whole) (first, second) in
    record { before = parts.0; after = parts.1; splits = found.splits; first = found.first; one_is = written_text parts.0 one at.0; other_is = written_text parts.1 other at.1 }
