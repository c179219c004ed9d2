-- What the fields of a stack mean.
use Rattle.std.specs.Prelude.{map, reverse}
use Rattle.tbr_tagged.specs.View.{chars_of}
use Rattle.tbr_stack.specs.declared.stack.Stack.TheInside.{Inside}
use Rattle.tbr_stack.specs.Stack.{Stack}

-- In memory the top comes last.
abbrev pub stack_of : {R : Type 0} → Inside R → Stack R
stack_of s = record {
  levels = reverse s.levels.items;
  links = map chars_of s.links.items;
  table_depth = s.table_depth;
}
