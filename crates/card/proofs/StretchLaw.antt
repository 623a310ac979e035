-- The frames read pulse after pulse are those in the stretches of bytes taken, so a card holds what its paper card holds after them too.
use Rattle.std.proofs.Common.{ℕ, List, ◌++◌, sym, subst}
use Rattle.station.specs.Inquiries.{Frame}
use Rattle.station.specs.Stations.{taken}
use Rattle.card.specs.Contents.{channel_mode}
use Rattle.card.specs.CardHistories.{History, made, ◌▸◌, stretches, with_taken, right_frames, FramesRead, EqualsPaperCardByStretches, Always}
use Rattle.card.proofs.PaperLaw.{equals_paper_card}
use Rattle.card.proofs.FramesRead.{LeavesOpen, frames_in, one_list, reads_on}

-- Both ways to tell the frames read tell the same ones, and the same bytes left open.
by_stretches : (history : History) (frames : List Frame) (left : List ℕ) → FramesRead history frames left → LeavesOpen (stretches history) frames left
by_stretches (made first) frames left read = read
by_stretches (earlier ▸ pulse) frames left (before, left_before, findings, open_end, was, reads, all, rest) =
    let bytes = taken pulse.line in
    let longer = with_taken bytes (stretches earlier) in
    let now = reads_on (stretches earlier) before left_before bytes findings open_end (by_stretches earlier before left_before was) reads in
    subst (λ fs. LeavesOpen longer fs left) (sym all) (subst (LeavesOpen longer (before ++ right_frames findings)) (sym rest) now)

pub equals_paper_card_by_stretches : Always (EqualsPaperCardByStretches channel_mode)
equals_paper_card_by_stretches kind history card run =
    let law = equals_paper_card kind history card run in
    let read = frames_in (stretches history) law.frames law.left (by_stretches history law.frames law.left law.read) in
    record {
      frames = law.frames;
      read = read;
      only = λ others other. one_list (stretches history) law.frames others read other;
      equal = law.equal;
    }
