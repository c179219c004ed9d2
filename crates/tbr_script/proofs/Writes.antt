-- One write after another.
use Rattle.std.proofs.Common.{◌≡◌, ℕ, ◌-◌, length, Option, Some, None, List, ◌++◌, sym, ap, ◌∙◌, append_assoc, Result, Ok, Err, take, drop, arith}
use Rattle.std.proofs.lemmas.Grind.{common_steps}
use Rattle.std.specs.Result.{IsErrAnd}
use Rattle.std.specs.Io.KnownBytes.{Appends}
use Rattle.tbr_script.specs.Streams.{AppendsBeginning, WritesAll}

pub appends_more : (old mid new : Option (List ℕ)) (xs ys : List ℕ) → Appends old mid xs → Appends mid new ys → Appends old new (xs ++ ys)
appends_more None mid new xs ys h k = tt
appends_more (Some held) None new xs ys h k = absurd h
appends_more (Some held) (Some mid) None xs ys h k = absurd k
appends_more (Some held) (Some mid) (Some new) xs ys h k = k ∙ ap (λ zs. zs ++ ys) h ∙ append_assoc held xs ys

-- a beginning of what follows was written
pub beginning_after : (old mid new : Option (List ℕ)) (xs ys : List ℕ) → Appends old mid xs → AppendsBeginning mid new ys → AppendsBeginning old new (xs ++ ys)
beginning_after old mid new xs ys h k = (xs ++ k.0, k.1, append_assoc xs k.0 k.1 ∙ ap (λ zs. xs ++ zs) k.2, appends_more old mid new xs k.0 h k.3)

-- what follows was written or not
pub writes_more : {T E : Type 0} (old mid new : Option (List ℕ)) (r : Result T E) (xs ys : List ℕ) → Appends old mid xs → WritesAll mid new r ys → WritesAll old new r (xs ++ ys)
writes_more old mid new (Ok x) xs ys h k = appends_more old mid new xs ys h k
writes_more old mid new (Err e) xs ys h k = beginning_after old mid new xs ys h k

-- a beginning of a part is a beginning of the whole
pub beginning_of : (old new : Option (List ℕ)) (xs ys zs : List ℕ) → xs ++ ys ≡ zs → AppendsBeginning old new xs → AppendsBeginning old new zs
beginning_of old new xs ys zs e h = (h.0, h.1 ++ ys, sym (append_assoc h.0 h.1 ys) ∙ ap (λ ws. ws ++ ys) h.2 ∙ e, h.3)

-- where a write has failed, a beginning was written
pub stopped : {T E : Type 0} (Q : E → Type 0) (r : Result T E) (old new : Option (List ℕ)) (xs : List ℕ) → IsErrAnd r Q → AppendsBeginning old new xs → WritesAll old new r xs
stopped Q (Ok x) old new xs e h = absurd e
stopped Q (Err x) old new xs e h = h

after : (n k : ℕ) (rest : List ℕ) → k ≡ length rest → take n rest ++ take (k - n) (drop n rest) ≡ rest
after n k rest e = grind (arith, common_steps)

-- the bytes after the first n are the rest
pub cut : (n k : ℕ) (done rest bytes : List ℕ) → k ≡ length rest → done ++ rest ≡ bytes → (done ++ take n rest) ++ take (k - n) (drop n rest) ≡ bytes
cut n k done rest bytes e f = append_assoc done (take n rest) (take (k - n) (drop n rest)) ∙ ap (λ ys. done ++ ys) (after n k rest e) ∙ f
