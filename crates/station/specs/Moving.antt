-- What a call does to the line that it was lent.
use Rattle.std.specs.Prelude.{◌≡◌}
use Rattle.lines.specs.Meaning.{Meaning}
use Rattle.lines.specs.declared.line.Line as line

-- What the line means moved by this rule, and what else the line has stayed.
pub record Moves {L : Type 0} (g : line.Ghosts L) (before after : L) (Rule : Meaning → Meaning → Type 0) : Type 0 where
  pub rule : Rule (g.meaning before) (g.meaning after)
  pub fixed : g.fixed after ≡ g.fixed before
