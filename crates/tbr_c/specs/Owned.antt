-- What C holds.
use base.Fml.{Fml, ftrue}
use denote.RawPtr.{Ptr}
use Rattle.std.specs.Prelude.{Option, None, Some}
use Rattle.std.specs.Box.Ownership.{box_owns}
use Rattle.std.specs.Global.{Global}
use Rattle.std_heap.specs.contracts.GlobalAllocator.TheImpl.{ghosts}
use Rattle.tbr_c.specs.contracts.held.Held.{the_row}

-- what a `Handle` owns: the same as a `Box<Held>`
abbrev pub held_owns : Global → Ptr → the_row.Denot → Fml
held_owns alloc = box_owns (ghosts.dealloc_token alloc) the_row

-- what a `Returned` owns: the same where a renderer was handed back, and else nothing
abbrev pub returned_owns : Global → Ptr → Option the_row.Denot → Fml
returned_owns alloc ptr None = ftrue
returned_owns alloc ptr (Some value) = held_owns alloc ptr value
