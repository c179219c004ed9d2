-- The seal and its parts own what a box at the same types owns.
use Rattle.tbr_c.proofs.Common.{dnil, [], plain, Bx}
use mir.Syntax.{impl, tnil}
use denote.Signature.{Slot}
use Rattle.std_heap.specs.contracts.Global as Heap
use Rattle.std_heap.specs.contracts.GlobalAllocator.TheImpl.{ghosts, dict}
use Rattle.std_heap.proofs.Global.TheLaws as heap
use Rattle.tbr_c.specs.contracts.held.Held as Home
use Rattle.tbr_c.proofs.held.Held.TheLaws as home
use Rattle.tbr_c.specs.contracts.handle.Handle as Sealed
use Rattle.tbr_c.specs.contracts.parts.Parts as parts

abbrev pub E : Bx
E = record { row = Home.the_row; laws = home.the_row_laws; al = record { row = Heap.the_row; laws = heap.the_row_laws; g = ghosts; d = dict; drops = impl [] tnil dnil } }

abbrev pub FromSeal : Slot 0
FromSeal = plain (λ _. Sealed.the_row)

abbrev pub FromParts : Slot 0
FromParts = plain (λ _. parts.the_row Home.the_row Heap.the_row ghosts)
