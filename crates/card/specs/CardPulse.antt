-- What a pulse does to a card and to the line that it is handed.
use Rattle.std.specs.Prelude.{◌≡◌, ℕ, cond, List, [], ◌∷◌, ◌++◌, Some, None, Option}
use Rattle.frames.specs.declared.finding.Cause.TheVariants.{Length, End, Check}
use Rattle.frames.specs.Finding.{Found, frame, dropped}
use Rattle.frames.specs.Promises.{Reading}
use Rattle.lines.specs.Meaning.{Meaning}
use Rattle.station.specs.Inquiries.{Frame}
use Rattle.station.specs.Exchange.{ack, nak, error, control_cmd}
use Rattle.station.specs.Stations.{put, taken, left_waiting, unless_silent}
use Rattle.boards.specs.Boards.{Kind}
use Rattle.card.specs.Contents.{Contents, Same}
use Rattle.card.specs.Requests.{serves, lawful_length, carried_out, answer, after_request}
use Rattle.card.specs.Responses.{Response, new_response, control_heard, ticked, attempted, due_frame}

-- A card: what it holds, its pending response, and the bytes that its reader holds.
pub record Card : Type 0 where
  pub holds : Contents
  pub pending : Option Response
  pub held : List ℕ

-- A card as it is made over the values of a store and some settings.
abbrev pub fresh : Contents → Card
fresh first = record { holds = first; pending = None; held = [] }

-- The reply that a finding draws at once.
abbrev pub reply : Kind → Found → Option Frame
reply kind (dropped Length n) = None
reply kind (dropped End n) = Some nak
reply kind (dropped Check n) = Some nak
reply kind (frame c d) =
    cond (control_cmd c) None
    (cond (serves kind c) (cond (lawful_length c d) (Some ack) (Some nak)) (Some error))

-- What the card holds after a finding.
abbrev pub holds_after : Kind → Contents → Found → Contents
holds_after kind now (dropped cause n) = now
holds_after kind now (frame c d) = cond (carried_out kind c d) (after_request kind now c d) now

-- The pending response after a finding: a request that is carried out replaces it, a control frame may end it or its attempt.
abbrev pub pending_after : Kind → Contents → Found → Option Response → Option Response
pending_after kind now (dropped cause n) r = r
pending_after kind now (frame c d) r =
    cond (carried_out kind c d) (Some (new_response (answer kind now c d))) (control_heard c d r)

-- Step 1, for the line: the outgoing bytes after the replies, in the order found; a reply that finds no space is lost.
abbrev pub replies : Kind → ℕ → List (ℕ × Found) → List ℕ → List ℕ
replies kind capacity [] outgoing = outgoing
replies kind capacity ((place, v) ∷ more) outgoing = replies kind capacity more (put capacity outgoing (reply kind v))

-- Step 1, for what the card holds, in the order found.
abbrev pub holds_after_all : Kind → List (ℕ × Found) → Contents → Contents
holds_after_all kind [] now = now
holds_after_all kind ((place, v) ∷ more) now = holds_after_all kind more (holds_after kind now v)

-- Step 1, for the pending response, in the order found.
abbrev pub pending_after_all : Kind → List (ℕ × Found) → Contents → Option Response → Option Response
pending_after_all kind [] now r = r
pending_after_all kind ((place, v) ∷ more) now r = pending_after_all kind more (holds_after kind now v) (pending_after kind now v r)

-- A pulse on a line: what the card and the line are afterwards.
pub record Pulsed (kind : Kind) (before : Card) (line : Meaning) (after : Card) (line_after : Meaning) : Type 0 where
  pub findings : List (ℕ × Found)
  pub open_end : List ℕ
  -- the findings of this pulse are all that the bytes held and taken hold
  pub reads : Reading 0 (before.held ++ taken line) findings open_end
  pub held : after.held ≡ unless_silent (taken line) open_end
  pub holds : Same after.holds (holds_after_all kind findings before.holds)
  pub pending : after.pending ≡ attempted line.capacity (replies kind line.capacity findings line.outgoing) (ticked (pending_after_all kind findings before.holds before.pending))
  pub outgoing : line_after.outgoing ≡ put line.capacity (replies kind line.capacity findings line.outgoing) (due_frame (ticked (pending_after_all kind findings before.holds before.pending)))
  pub waits_on : line_after.waiting ≡ left_waiting line
  pub capacity : line_after.capacity ≡ line.capacity
