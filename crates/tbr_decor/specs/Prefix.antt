-- What a decorator puts a prefix before.
use Rattle.std.specs.Prelude.{ℕ, ℤ}
use Rattle.tbr_decor.specs.declared.prefix.DecoratorPrefix.{DecoratorPrefix}
use Rattle.tbr_decor.specs.declared.prefix.DecoratorPrefix.TheVariants as asked

-- A header by its level, an item of an ordered list by its number.
pub data Prefix : Type 0 where
  header : ℕ → Prefix
  quote : Prefix
  unordered_item : Prefix
  ordered_item : ℤ → Prefix

-- the prefix that one of the code is
abbrev pub asked_prefix : DecoratorPrefix → Prefix
asked_prefix (asked.Header level) = header level
asked_prefix asked.Quote = quote
asked_prefix asked.Item = unordered_item
asked_prefix (asked.OrderedItem number) = ordered_item number
