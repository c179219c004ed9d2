use Rattle.tbr_kept_lines.proofs.Common.{rules}
use Rattle.tbr_kept_lines.proofs.Prefixes.{any_shown}
use Rattle.tbr_kept_lines.proofs.prefixed_lines.PrefixedLines.has_character.Goals as goal

pub returns-then-are_seen : goal.returns-then-are_seen
returns-then-are_seen g c = search (rules, any_shown, c.if-are_seen.true, c.are_seen.ensures, c.in-Some.is, c.self.invariant, c.self.view_is, c.len.ensures)

pub returns-else-are_seen : goal.returns-else-are_seen
returns-else-are_seen g c = search (rules, any_shown, c.has_character.ensures, c.if-are_seen.false, c.are_seen.ensures, c.in-Some.is, c.self.invariant, c.self.view_is, c.len.ensures)
