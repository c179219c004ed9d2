-- The first of some texts that begins with a word.
use Rattle.std.proofs.Common.{◌≡◌, ◌≢◌, ℕ, zero, suc, ◌+◌, ◌<◌, List, [], ◌∷◌, length, map, take, get_or, refl, ap, subst, arith}
use Rattle.std.specs.Borrow.{Bor}
use Rattle.tbr_statements.specs.Words.{first_word, NoneBegins, IsFirstOf}

abbrev pub bytes_of : Bor (List ℕ) → List ℕ
bytes_of s = s.now

pub none_more : (word : List ℕ) (texts : List (Bor (List ℕ))) (i : ℕ) (d : Bor (List ℕ)) → i < length texts →
    NoneBegins word (map bytes_of (take i texts)) → first_word (bytes_of (get_or texts i d)) ≢ word →
    NoneBegins word (map bytes_of (take (i + 1) texts))
none_more word [] i d below h here = absurd (omega (arith, below))
none_more word (t ∷ texts) zero d below h here = (here, tt)
none_more word (t ∷ texts) (suc i) d below h here =
    subst (λ n. NoneBegins word (map bytes_of (take n (t ∷ texts)))) same (h.0, none_more word texts i d (omega (arith, below)) h.1 here)
  where
    same : suc (i + 1) ≡ suc i + 1
    same = omega arith

pub is_first : (word : List ℕ) (texts : List (Bor (List ℕ))) (i : ℕ) (d : Bor (List ℕ)) → i < length texts →
    NoneBegins word (map bytes_of (take i texts)) → first_word (bytes_of (get_or texts i d)) ≡ word →
    IsFirstOf word (map bytes_of texts) (bytes_of (get_or texts i d))
is_first word [] i d below h here = absurd (omega (arith, below))
is_first word (t ∷ texts) zero d below h here = record { before = []; others = map bytes_of texts; among = refl; begins = here; first = tt }
is_first word (t ∷ texts) (suc i) d below h here =
    let rest = is_first word texts i d (omega (arith, below)) h.1 here in
    record {
      before = bytes_of t ∷ rest.before;
      others = rest.others;
      among = ap (λ (ls : List (List ℕ)). bytes_of t ∷ ls) rest.among;
      begins = here;
      first = (h.0, rest.first);
    }
