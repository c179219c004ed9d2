-- Blocks with the decorator's own prefixes.
use Rattle.std.specs.Prelude.{ℕ, Bool, true, false, if◌then◌else◌, Option, List, codes}
use Rattle.tbr_model.specs.Width.{width_of_text}
use Rattle.tbr_tagged.specs.Padding.{spaces}
use Rattle.tbr_decor.specs.Prefix.{Prefix, header, quote, unordered_item, ordered_item}
use Rattle.tbr_statements.specs.declared.block.Block.{Block}
use Rattle.tbr_statements.specs.declared.block.Block.TheVariants.{Quote, Item, Ordered, Heading}

-- the prefix that the decorator is asked for
abbrev pub prefix_of : Block → Prefix
prefix_of Quote = quote
prefix_of Item = unordered_item
prefix_of (Ordered number) = ordered_item number
prefix_of (Heading level) = header level

-- whether empty lines part it from what is above it and below it
abbrev pub stands_apart : Block → Bool
stands_apart Quote = true
stands_apart Item = false
stands_apart (Ordered number) = false
stands_apart (Heading level) = true

-- The prefix of all lines but the first: that of the first, or, of an item, spaces in as many columns.
abbrev pub other_prefix : (ℕ → Option ℕ) → Block → List ℕ → List ℕ
other_prefix columns block prefix =
    if stands_apart block then prefix else spaces (width_of_text columns prefix)

-- what an error calls it
abbrev pub name_of : Block → List ℕ
name_of Quote = codes "a quote"
name_of Item = codes "an item"
name_of (Ordered number) = codes "an ordered item"
name_of (Heading level) = codes "a heading"

-- the command that ends it
abbrev pub end_of : Block → List ℕ
end_of Quote = codes "endquote"
end_of Item = codes "enditem"
end_of (Ordered number) = codes "endordered"
end_of (Heading level) = codes "endheading"
