-- Every sample case, computed.
use Rattle.std.proofs.Common.{◌≡◌, true, refl}
use Rattle.frames.specs.Crc.{shift, shift_once}
use Rattle.frames.specs.Samples.{all}
use Rattle.station.specs.Inquiries.{written}
use Rattle.station.specs.Stations.{taken, left_waiting}
use Rattle.station.specs.Samples.{lodged, after_pulses, pulsed, puts_next, crowded, answered_samples, dead_line_samples, late_samples, refused_samples, samples}

pub all_hold : all samples ≡ true
unfolding lodged after_pulses pulsed puts_next crowded samples answered_samples dead_line_samples late_samples refused_samples shift shift_once written taken left_waiting
all_hold = refl
