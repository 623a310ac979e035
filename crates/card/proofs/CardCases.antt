-- Every sample case of a card, computed; those of the levels below hold there.
use Rattle.std.proofs.Common.{◌≡◌, true, refl}
use Rattle.frames.specs.Crc.{shift, shift_once}
use Rattle.frames.specs.Samples.{all}
use Rattle.station.specs.Inquiries.{written}
use Rattle.station.specs.Stations.{taken, left_waiting}
use Rattle.station.specs.Samples.{lodged, after_pulses as station_after_pulses, pulsed, puts_next, crowded, answered_samples, dead_line_samples, late_samples, refused_samples, samples as station_samples}
use Rattle.card.specs.CardSamples.{after_pulses, puts_on, puts_then, answer_samples, change_samples, reply_samples, response_samples, samples}

pub all_hold : all samples ≡ true
unfolding lodged station_after_pulses pulsed puts_next crowded station_samples answered_samples dead_line_samples late_samples refused_samples shift shift_once written taken left_waiting after_pulses puts_on puts_then answer_samples change_samples reply_samples response_samples samples
all_hold = refl
