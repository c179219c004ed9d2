use Rattle.tbr_tagged.proofs.Common.{◌<◌, arith, element_of}
use Rattle.tbr_tagged.proofs.GrownLines.{alone_cut}
use Rattle.tbr_tagged.proofs.element_list.ElementList.cut_back.Goals as goal

pub returns-in-Alone-2 : goal.returns-in-Alone-2
returns-in-Alone-2 g c = λ es count bytes grown.
    let some : 0 < c.args.count = omega arith in
    alone_cut es (element_of c.in-Alone.element) (element_of c.cut_text.new.element) c.args.count c.args.bytes count some bytes (rw c.in-Alone.is at grown) c.cut_text.ensures
