-- Any two outcomes that a door's contract permits are equal: for each `meter_…`, what its contract tells of two ends of one call makes the answers
-- equal, and all that was lent. Assumes nothing.
use mathlib.Core.Path.{sym, ◌∙◌}
use mathlib.Core.List.{List}
use Prim.Native.Nat.{ℕ}
use lib.IntN.{ℤ}
use Rattle.register.proofs.HowShort.{same-told}
use Rattle.player.specs.declared.Player.{Player}
use Rattle.trend.specs.declared.Tally.{Tally}
use Rattle.trend.specs.declared.Levels.{Levels}
use Rattle.history.proofs.Determined.{Determined}
use Rattle.meter.specs.Players.{player_of}
use Rattle.meter.proofs.registers.meter_taps.Kinds as taps_kinds
use Rattle.meter.proofs.registers.meter_taps.Reads as taps
use Rattle.meter.proofs.registers.meter_default_taps.Kinds as default_taps_kinds
use Rattle.meter.proofs.registers.meter_default_taps.Reads as default_taps
use Rattle.meter.proofs.registers.meter_sequence.Kinds as sequence_kinds
use Rattle.meter.proofs.registers.meter_sequence.Reads as sequence
use Rattle.meter.proofs.registers.meter_player_new.Kinds as player_new_kinds
use Rattle.meter.proofs.registers.meter_player_new.Reads as player_new
use Rattle.meter.proofs.registers.meter_player_step.Kinds as player_step_kinds
use Rattle.meter.proofs.registers.meter_player_step.Reads as player_step
use Rattle.meter.proofs.registers.meter_player_play.Kinds as player_play_kinds
use Rattle.meter.proofs.registers.meter_player_play.Reads as player_play
use Rattle.meter.proofs.recordings.meter_recording.Kinds as recording_kinds
use Rattle.meter.proofs.recordings.meter_recording.Reads as recording
use Rattle.meter.proofs.recordings.meter_predict.Kinds as predict_kinds
use Rattle.meter.proofs.recordings.meter_predict.Reads as predict
use Rattle.meter.proofs.recordings.meter_predict_in_room.Kinds as predict_in_room_kinds
use Rattle.meter.proofs.recordings.meter_predict_in_room.Reads as predict_in_room
use Rattle.meter.proofs.short_rooms.meter_legendre_sequence.Kinds as legendre_sequence_kinds
use Rattle.meter.proofs.short_rooms.meter_legendre_sequence.Reads as legendre_sequence
use Rattle.meter.proofs.short_rooms.meter_legendre_recording.Kinds as legendre_recording_kinds
use Rattle.meter.proofs.short_rooms.meter_legendre_recording.Reads as legendre_recording
use Rattle.meter.proofs.short_rooms.meter_legendre_predict.Kinds as legendre_predict_kinds
use Rattle.meter.proofs.short_rooms.meter_legendre_predict.Reads as legendre_predict
use Rattle.meter.proofs.campaigns.meter_start.Kinds as start_kinds
use Rattle.meter.proofs.campaigns.meter_start.Reads as start
use Rattle.meter.proofs.filing.meter_enter.Kinds as enter_kinds
use Rattle.meter.proofs.filing.meter_enter.Reads as enter
use Rattle.meter.proofs.filing.meter_capture.Kinds as capture_kinds
use Rattle.meter.proofs.filing.meter_capture.Reads as capture
use Rattle.meter.proofs.filing.meter_file.Kinds as file_kinds
use Rattle.meter.proofs.filing.meter_file.Reads as file
use Rattle.meter.proofs.filing.meter_file_capture.Kinds as file_capture_kinds
use Rattle.meter.proofs.filing.meter_file_capture.Reads as file_capture
use Rattle.meter.proofs.judgements.meter_judge.Kinds as judge_kinds
use Rattle.meter.proofs.judgements.meter_judge.Reads as judge
use Rattle.meter.proofs.judgements.meter_judge_capture.Kinds as judge_capture_kinds
use Rattle.meter.proofs.judgements.meter_judge_capture.Reads as judge_capture
use Rattle.meter.proofs.campaigns.meter_withdraw.Kinds as withdraw_kinds
use Rattle.meter.proofs.campaigns.meter_withdraw.Reads as withdraw
use Rattle.meter.proofs.campaigns.meter_counts.Kinds as counts_kinds
use Rattle.meter.proofs.campaigns.meter_counts.Reads as counts
use Rattle.meter.proofs.campaigns.meter_response.Kinds as response_kinds
use Rattle.meter.proofs.campaigns.meter_response.Reads as response
use Rattle.meter.proofs.campaigns.meter_summary.Kinds as summary_kinds
use Rattle.meter.proofs.campaigns.meter_summary.Reads as summary

-- of a door with a period: the answer with what is lent, and the period
pub taps_determined : Determined 1 taps_kinds.ps taps_kinds.r (ℕ × ℕ) taps.Learnt (λ κs r s. (r, s.1.1.0.now))
taps_determined κs a x y s t p q = same-told a.0 a.1.0 a.1.1.0.now (λ n. n) p q

pub default_taps_determined : Determined 1 default_taps_kinds.ps default_taps_kinds.r (ℕ × ℕ) default_taps.Learnt (λ κs r s. (r, s.1.0.now))
default_taps_determined κs a x y s t p q = p ∙ sym q

pub sequence_determined : Determined 2 sequence_kinds.ps sequence_kinds.r ((ℕ × List ℕ) × ℕ) sequence.Learnt (λ κs r s. ((r, s.1.1.0.now), s.1.1.1.0.now))
sequence_determined κs a x y s t p q = same-told a.0 a.1.0 a.1.1.1.0.now (λ (o : ℕ × List ℕ). o.0) p q

pub player_new_determined : Determined 4 player_new_kinds.ps player_new_kinds.r (ℕ × Player) player_new.Learnt (λ κs r s. (r, player_of s.1.1.0.now s.1.1.1.0.now s.1.1.1.1.0.now s.1.1.1.1.1.0.now))
player_new_determined κs a x y s t p q = p ∙ sym q

pub player_step_determined : Determined 5 player_step_kinds.ps player_step_kinds.r (ℕ × Player × ℤ) player_step.Learnt (λ κs r s. (r, player_of s.0.now s.1.0.now s.1.1.0.now s.1.1.1.0.now, s.1.1.1.1.0.now))
player_step_determined κs a x y s t p q = p ∙ sym q

pub player_play_determined : Determined 5 player_play_kinds.ps player_play_kinds.r (ℕ × Player × List ℤ) player_play.Learnt (λ κs r s. (r, player_of s.0.now s.1.0.now s.1.1.0.now s.1.1.1.0.now, s.1.1.1.1.0.now))
player_play_determined κs a x y s t p q = p ∙ sym q

pub recording_determined : Determined 5 recording_kinds.ps recording_kinds.r ((ℕ × List ℤ × List ℤ × List ℕ) × ℕ) recording.Learnt
    (λ κs r s. ((r, s.1.1.1.0.now, s.1.1.1.1.0.now, s.1.1.1.1.1.0.now), s.1.1.1.1.1.1.0.now))
recording_determined κs a x y s t p q = same-told a.0 a.1.0 a.1.1.1.1.1.1.0.now (λ (o : ℕ × List ℤ × List ℤ × List ℕ). o.0) p q

pub predict_determined : Determined 3 predict_kinds.ps predict_kinds.r ((ℕ × List ℤ) × ℕ) predict.Learnt (λ κs r s. ((r, s.1.1.1.0.now), s.1.1.1.1.0.now))
predict_determined κs a x y s t p q = same-told a.0 a.1.0 a.1.1.1.1.0.now (λ (o : ℕ × List ℤ). o.0) p q

pub predict_in_room_determined : Determined 4 predict_in_room_kinds.ps predict_in_room_kinds.r ((ℕ × List ℤ × List ℤ) × ℕ) predict_in_room.Learnt
    (λ κs r s. ((r, s.1.1.1.0.now, s.1.1.1.1.0.now), s.1.1.1.1.1.0.now))
predict_in_room_determined κs a x y s t p q = same-told a.0 a.1.0 a.1.1.1.1.1.0.now (λ (o : ℕ × List ℤ × List ℤ). o.0) p q

pub legendre_sequence_determined : Determined 1 legendre_sequence_kinds.ps legendre_sequence_kinds.r (ℕ × List ℕ) legendre_sequence.Learnt (λ κs r s. (r, s.1.0.now))
legendre_sequence_determined κs a x y s t p q = p ∙ sym q

pub legendre_recording_determined : Determined 2 legendre_recording_kinds.ps legendre_recording_kinds.r (ℕ × List ℤ) legendre_recording.Learnt (λ κs r s. (r, s.1.1.0.now))
legendre_recording_determined κs a x y s t p q = p ∙ sym q

pub legendre_predict_determined : Determined 2 legendre_predict_kinds.ps legendre_predict_kinds.r (ℕ × List ℤ) legendre_predict.Learnt (λ κs r s. (r, s.1.1.0.now))
legendre_predict_determined κs a x y s t p q = p ∙ sym q

pub start_determined : Determined 6 start_kinds.ps start_kinds.r ((ℕ × List ℕ × List ℕ × List ℕ × List ℤ × List ℤ) × ℕ) start.Learnt
    (λ κs r s. ((r, s.1.1.1.1.0.now, s.1.1.1.1.1.0.now, s.1.1.1.1.1.1.0.now, s.1.1.1.1.1.1.1.0.now, s.1.1.1.1.1.1.1.1.0.now), s.1.1.1.1.1.1.1.1.1.0.now))
start_determined κs a x y s t p q =
    same-told a.0 a.1.0 a.1.1.1.1.1.1.1.1.1.0.now (λ (o : ℕ × List ℕ × List ℕ × List ℕ × List ℤ × List ℤ). o.0) p q

pub enter_determined : Determined 8 enter_kinds.ps enter_kinds.r (ℕ × List ℕ × List ℕ × List ℕ × List ℤ × List ℤ × ℕ × ℕ) enter.Learnt
    (λ κs r s. (r, s.1.1.1.1.0.now, s.1.1.1.1.1.0.now, s.1.1.1.1.1.1.0.now, s.1.1.1.1.1.1.1.0.now, s.1.1.1.1.1.1.1.1.0.now, s.1.1.1.1.1.1.1.1.1.1.1.0.now, s.1.1.1.1.1.1.1.1.1.1.1.1.0.now))
enter_determined κs a x y s t p q = p ∙ sym q

pub capture_determined : Determined 8 capture_kinds.ps capture_kinds.r (ℕ × List ℕ × List ℕ × List ℕ × List ℤ × List ℤ × ℕ × ℕ) capture.Learnt
    (λ κs r s. (r, s.1.1.1.1.0.now, s.1.1.1.1.1.0.now, s.1.1.1.1.1.1.0.now, s.1.1.1.1.1.1.1.0.now, s.1.1.1.1.1.1.1.1.0.now, s.1.1.1.1.1.1.1.1.1.1.1.1.0.now, s.1.1.1.1.1.1.1.1.1.1.1.1.1.0.now))
capture_determined κs a x y s t p q = p ∙ sym q

pub file_determined : Determined 8 file_kinds.ps file_kinds.r (ℕ × List ℕ × List ℕ × List ℕ × List ℤ × List ℤ × ℕ × ℕ) file.Learnt
    (λ κs r s. (r, s.1.1.1.1.0.now, s.1.1.1.1.1.0.now, s.1.1.1.1.1.1.0.now, s.1.1.1.1.1.1.1.0.now, s.1.1.1.1.1.1.1.1.0.now, s.1.1.1.1.1.1.1.1.1.1.1.1.1.0.now, s.1.1.1.1.1.1.1.1.1.1.1.1.1.1.0.now))
file_determined κs a x y s t p q = p ∙ sym q

pub file_capture_determined : Determined 8 file_capture_kinds.ps file_capture_kinds.r (ℕ × List ℕ × List ℕ × List ℕ × List ℤ × List ℤ × ℕ × ℕ) file_capture.Learnt
    (λ κs r s. (r, s.1.1.1.1.0.now, s.1.1.1.1.1.0.now, s.1.1.1.1.1.1.0.now, s.1.1.1.1.1.1.1.0.now, s.1.1.1.1.1.1.1.1.0.now, s.1.1.1.1.1.1.1.1.1.1.1.1.1.1.0.now, s.1.1.1.1.1.1.1.1.1.1.1.1.1.1.1.0.now))
file_capture_determined κs a x y s t p q = p ∙ sym q

pub judge_determined : Determined 4 judge_kinds.ps judge_kinds.r ((ℕ × ℕ × ℕ) × ℕ) judge.Learnt
    (λ κs r s. ((r, s.1.1.1.0.now, s.1.1.1.1.0.now), s.1.1.1.1.1.0.now))
judge_determined κs a x y s t p q = same-told a.0 a.1.0 a.1.1.1.1.1.0.now (λ (o : ℕ × ℕ × ℕ). o.0) p q

pub judge_capture_determined : Determined 4 judge_capture_kinds.ps judge_capture_kinds.r ((ℕ × ℕ × ℕ) × ℕ) judge_capture.Learnt
    (λ κs r s. ((r, s.1.1.1.1.0.now, s.1.1.1.1.1.0.now), s.1.1.1.1.1.1.0.now))
judge_capture_determined κs a x y s t p q = same-told a.0 a.1.0 a.1.1.1.1.1.1.0.now (λ (o : ℕ × ℕ × ℕ). o.0) p q

pub withdraw_determined : Determined 5 withdraw_kinds.ps withdraw_kinds.r (ℕ × List ℕ × List ℕ × List ℕ × List ℤ × List ℤ) withdraw.Learnt
    (λ κs r s. (r, s.1.1.1.1.0.now, s.1.1.1.1.1.0.now, s.1.1.1.1.1.1.0.now, s.1.1.1.1.1.1.1.0.now, s.1.1.1.1.1.1.1.1.0.now))
withdraw_determined κs a x y s t p q = p ∙ sym q

pub counts_determined : Determined 10 counts_kinds.ps counts_kinds.r (ℕ × Tally) counts.Learnt (λ κs r s. (r, record { unseen = s.1.1.1.1.1.1.1.1.1.0.now; standing = s.1.1.1.1.1.1.1.1.1.1.0.now; overloaded = s.1.1.1.1.1.1.1.1.1.1.1.0.now; dead = s.1.1.1.1.1.1.1.1.1.1.1.1.0.now; withdrawn = s.1.1.1.1.1.1.1.1.1.1.1.1.1.0.now }))
counts_determined κs a x y s t p q = p ∙ sym q

pub response_determined : Determined 9 response_kinds.ps response_kinds.r (ℕ × List ℤ × List ℤ × List ℤ × List ℕ) response.Learnt (λ κs r s. (r, s.1.1.1.1.1.1.1.1.1.0.now, s.1.1.1.1.1.1.1.1.1.1.0.now, s.1.1.1.1.1.1.1.1.1.1.1.0.now, s.1.1.1.1.1.1.1.1.1.1.1.1.0.now))
response_determined κs a x y s t p q = p ∙ sym q

pub summary_determined : Determined 11 summary_kinds.ps summary_kinds.r (ℕ × List ℤ × List ℕ × ℕ × Levels) summary.Learnt (λ κs r s. (r, s.1.1.1.1.1.1.1.1.1.0.now, s.1.1.1.1.1.1.1.1.1.1.0.now, s.1.1.1.1.1.1.1.1.1.1.1.0.now, record { highest = s.1.1.1.1.1.1.1.1.1.1.1.1.0.now; lowest = s.1.1.1.1.1.1.1.1.1.1.1.1.1.0.now; peak = s.1.1.1.1.1.1.1.1.1.1.1.1.1.1.0.now }))
summary_determined κs a x y s t p q = p ∙ sym q
