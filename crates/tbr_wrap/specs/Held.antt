-- What the fields of a block hold, and what a contract sees of them.
use Rattle.std.specs.Prelude.{◌≡◌, ℕ, ◌≤◌, ◌||◌, if◌then◌else◌, Bool, Option, None, Some, List, length, take}
use Rattle.std.specs.List.{AllZip}
use Rattle.tbr_model.specs.Run.{Item}
use Rattle.tbr_model.specs.Rule.{Progress}
use Rattle.tbr_tagged.specs.Elements.{SameItems}
use Rattle.tbr_wrap.specs.Runs.{is_some_list}
use Rattle.tbr_wrap.specs.Block.{Block, progress_of}
use Rattle.tbr_wrap.specs.Story.{story}
use Rattle.tbr_wrap.specs.declared.block.WrappedBlock.TheInside.{Inside}
use Rattle.tbr_wrap.specs.Wrapper.{IsAtProgress}
use Rattle.tbr_wrap.specs.declared.wrapper.Wrapper.{Wrapper}

-- The lines of earlier runs, and after them what the rule has laid of the current run, but for its lines that were
-- handed out. A line has ended where one was handed out or one is left.
pub record HoldsAt {A : Type 0} (columns : ℕ → Option ℕ) (eq : A → A → Bool) (b : Wrapper A) (begun : Bool)
    (s : Block A) (p : Progress A) : Type 0 where
  pub before : List (List (Item A))
  pub earlier : AllZip (SameItems eq) before s.ended
  pub within : s.handed ≤ length p.laid.done
  pub stands : IsAtProgress columns eq b before (take s.handed p.laid.done) p
  pub has_begun : begun || is_some_list b.lines.ended.items ≡ s.begun || is_some_list p.laid.done

-- where the rule is
abbrev pub HoldsRun : {A : Type 0} → (ℕ → Option ℕ) → (A → A → Bool) → Wrapper A → Bool → Block A → Type 0
HoldsRun columns eq b begun s = HoldsAt columns eq b begun s (progress_of columns s)

-- the tag of the padding, where lines are padded
abbrev pub padding_tag : {A W : Type 0} → Inside A W → Option A
padding_tag b = if b.pads then Some b.default_tag else None

-- what a contract sees of the fields
abbrev pub block_of : {A W : Type 0} → (ℕ → Option ℕ) → Inside A W → Block A
block_of columns b =
    let s = story columns b.wrapper.value.lines.width b.wrapper.value.lines.may_overflow (padding_tag b) b.changes.items in
    record {
      width = b.wrapper.value.lines.width;
      may_overflow = b.wrapper.value.lines.may_overflow;
      padding = padding_tag b;
      failure = b.failure;
      begun = s.begun;
      ended = s.ended;
      events = s.events;
      handed = s.handed;
    }

-- and what those of a block that hasn't failed hold
abbrev pub HoldsBlock : {A W : Type 0} → (ℕ → Option ℕ) → (A → A → Bool) → Inside A W → Type 0
HoldsBlock columns eq b = b.failure ≡ None → HoldsRun columns eq b.wrapper.value b.begun (block_of columns b)
