use Rattle.std.proofs.Common.{◌<◌, ◌+◌, take, subst, arith}
use Rattle.std.proofs.lemmas.List.{take_rest}
use Rattle.frames.specs.Reading.{Reads, holds, found}
use Rattle.std.proofs.lemmas.List.Elements.{All-append, All-take}
use Rattle.frames.proofs.ByteLists.{bytes_told}
use Rattle.frames.proofs.Holding.{begun_held, bytes_held}
use Rattle.frames.proofs.Joining.{reads_on}
use Rattle.frames.proofs.Exactness.{uses_within, uses_some, finds_exactly, cut_anywhere, one_reading}
use Rattle.frames.proofs.RoundTrip.{finds_written, stands_as_written}
use Rattle.frames.proofs.reader.Reader.read.Goals as goal

pub returns : goal.returns
returns c =
    let held = holds c.args.self.now in
    let stretch = c.args.stretch.now in
    let r = found c.candidate-finding.result.0 in
    let used = c.hunt-hunted.result + c.candidate-finding.result.1 in
    let after = holds c.candidate-finding.new.self in
    let told = c.hunt-hunted.ensures in
    let reads : Reads held stretch r used after =
    reads_on held (holds c.hunt-hunted.new.self) after stretch c.hunt-hunted.result c.candidate-finding.result.1 r told.within told.waits
    (subst (λ l. Reads (holds c.hunt-hunted.new.self) l r c.candidate-finding.result.1 after)
    (take_rest stretch c.hunt-hunted.result) c.candidate-finding.ensures) in
    let exact = finds_exactly held stretch after r used reads in
    record {
      reads = reads;
      within = uses_within held stretch after r used reads;
      some = uses_some held stretch after r used (begun_held c.args.self.now) reads;
      exactly = exact;
      written = λ before cmd body rest. finds_written cmd body held stretch before rest r used exact;
      stands = stands_as_written held stretch after r used (All-append (λ b. b < 256) held (take used stretch) (bytes_held c.args.self.now) (All-take (λ b. b < 256) used stretch (bytes_told stretch (λ i. omega (arith, c.type_inv.stretch i))))) reads;
      cut = cut_anywhere held stretch after r used reads;
      once = one_reading;
    }
