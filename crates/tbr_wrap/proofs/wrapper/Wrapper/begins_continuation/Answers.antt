use Rattle.tbr_wrap.proofs.wrapper.Wrapper.begins_continuation.Goals as goal

pub returns-in-Pre : goal.returns-in-Pre
returns-in-Pre g c = λ columns before given p s. rw c.in-Pre.is (c.passes.ensures columns before given p s)
