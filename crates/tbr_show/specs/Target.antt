-- Targets of links, as formats write them.
use Rattle.std.specs.Prelude.{ℕ, ◌==◌, nat_eq, Bool, not, ◌||◌, List, codes}
use Rattle.std.specs.List.{list_any, starts_with}
use Rattle.percent_encoding.specs.Percent.{percent_encode}
use Rattle.tbr_show.specs.declared.target.TheConstants.{NOT_OF_URLS}

-- each byte that may not be in a URL as `%` and two hexadecimal digits
abbrev pub encoded : List ℕ → List ℕ
encoded target = percent_encode NOT_OF_URLS target

-- a colon, in bytes
abbrev pub colon : ℕ
colon = 58

-- whether a link to a target leads there: it has no scheme, or one of these
abbrev pub is_followed : List ℕ → Bool
is_followed target =
    not (list_any (λ b. b == colon) target)
    || starts_with nat_eq target (codes "http://") || starts_with nat_eq target (codes "https://")
    || starts_with nat_eq target (codes "mailto:") || starts_with nat_eq target (codes "ftp://")
