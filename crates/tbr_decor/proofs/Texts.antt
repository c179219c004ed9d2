-- The characters of texts that begin with ASCII.
use Rattle.std.proofs.Common.{◌≡◌, ℕ, ◌<◌, suc, zero, List, [], ◌∷◌, ◌++◌, replicate, chars, IsTrue, refl, ap, ◌∙◌, slice_index_or, lit<}
use Rattle.std.specs.List.{list_all, repeat}
use Rattle.std.specs.Char.{is_ascii}
use Rattle.std.specs.Str.{IsAscii, IsUtf8}
use Rattle.std.proofs.lemmas.Str.Ascii.{IsAscii-from_all}
use Rattle.std.proofs.lemmas.Bool.{ltb-true}
use Rattle.std.proofs.lemmas.List.Sums.{AllPass-from_list_all}
use Rattle.std.proofs.lemmas.List.Elements.{All-replicate}
use Rattle.std.proofs.lemmas.Str.{chars-append, chars-IsAscii, IsUtf8-from_ascii, IsAscii-append}

pub ascii_first : (xs ys : List ℕ) → IsAscii xs → chars (xs ++ ys) ≡ xs ++ chars ys
ascii_first xs ys h = chars-append xs ys (IsUtf8-from_ascii xs h) ∙ ap (λ zs. zs ++ chars ys) (chars-IsAscii xs h)

pub ascii_all : (xs : List ℕ) → IsTrue (list_all is_ascii xs) → IsAscii xs
ascii_all xs h = IsAscii-from_all xs (λ k d l. ltb-true (slice_index_or xs k d) 128 (AllPass-from_list_all is_ascii xs h k d l))

pub ascii_last : (xs ys : List ℕ) → IsUtf8 xs → IsAscii ys → chars (xs ++ ys) ≡ chars xs ++ ys
ascii_last xs ys h k = chars-append xs ys h ∙ ap (λ zs. chars xs ++ zs) (chars-IsAscii ys k)

pub repeated : (n c : ℕ) → repeat n (c ∷ []) ≡ replicate n c
repeated zero c = refl
repeated (suc n) c = ap (λ cs. c ∷ cs) (repeated n c)

pub ascii_header : (level : ℕ) → chars (replicate level 35 ++ 32 ∷ []) ≡ replicate level 35 ++ 32 ∷ []
ascii_header level = chars-IsAscii (replicate level 35 ++ 32 ∷ []) (IsAscii-append (replicate level 35) (32 ∷ [])
    (IsAscii-from_all (replicate level 35) (All-replicate (λ c. c < 128) level 35 (lit< tt))) (ascii_all (32 ∷ []) refl))
