-- The requests, by the laws of the crates that they are about.
use mathlib.Core.Path.{◌≡◌, refl}
use mathlib.Core.List.{List, [], map}
use mathlib.Core.Bool.{Bool, true, false, ◌&&◌}
use mathlib.Core.Option.{none, some}
use Prim.Native.Nat.{ℕ, ◌<◌}
use lib.IntN.{ℤ}
use lib.ListN.{length}
use Rattle.text_bytes.specs.Bytes.{bytes, between, is_digit}
use Rattle.text_runs.specs.Runs.{run}
use Rattle.text_numerals.specs.Numbers.{value, INT, FLOAT, decimal_from, decimal, signed, not_empty, all_digits, millionths, float_of, number_from, after_digits, unsigned, negative, unsigned_part, fixed_of, in_mantissa, mantissa, with_exponent, number_of}
use Rattle.refusal.specs.Outcomes.{accepted}
use Rattle.text_numerals.proofs.Exponents.{exponent_taken, exponent_power, exponent_wrong, exponent_new, exponent_free}
use Rattle.bac6_text.specs.Figure.{Bone, Face}
use Rattle.tra4_text.specs.Movement.{Pattern, Movement}
use Rattle.tra4_text.specs.Grammar.{channel_names}
use Rattle.tra4_text.specs.Rules.{movement_counts}
use Rattle.tra4_text.specs.Answer.{movement_answer, movement_table}
use Rattle.player_spec.specs.Fractions.{whole}
use Rattle.player_spec.specs.Samples.{pose, standing}
use Rattle.player_spec.specs.Lookups.{sample_in}
use Rattle.player_spec.specs.Deciding.{deciding, state_by}
use Rattle.player_spec.specs.Faces.{all_owned, group_shown, shown_of}
use Rattle.tra4_text.proofs.Patterns.{patterns-taken, startless, started}
use Rattle.player_spec.proofs.Greatest.{deciding-greatest, unfallen}
use Rattle.player_spec.proofs.Reasons.{text_reason, table_reason, text_owners, table_owners}
use Rattle.player_spec.proofs.WhyShown.{text-shown, table-shown, refused_by, shown_in_lem}
use Rattle.player_laws.proofs.Exchanged.{rule_exchanged, state_exchanged}
use Rattle.tra4_text.proofs.LeftOut.{bone-ends, channel-read, bone-chunks, channel-kept, zero-range, laid-range}
use Rattle.player_laws.proofs.Keys.{sample_none, sample-pose}
use Rattle.player_laws.proofs.LeftOut.{zeros-sound, other_row, below-zero}
use Rattle.movement_bridge.specs.Counts.{channel_of}
use Rattle.movement_bridge.proofs.Tables.{frame_asked}
use Rattle.player_laws.proofs.Steps.{sample-reduced, channel-steps, sample-steps, steps-one_more}
use Rattle.player_fractions.specs.Halving.{unreduced_of, steps_left, Enough}
use Rattle.movement_bridge.proofs.Sampling.{channel-sound, channel_values, pair_none, sample_left_out}
use Rattle.pair_bridge.specs.Playing.{frames_of}
use Rattle.pair_bridge.proofs.Lookups.{asked_shown}
use Rattle.text_notes.proofs.Gapped.{gap-moved}
use Rattle.text_notes.proofs.Annotated.{annotated-clear, annotated-tokens, annotates_again}
use Rattle.comments.proofs.Figures.{figure-same}
use Rattle.comments.proofs.Movements.{movement-same}
use Rattle.comments.proofs.Loading.{figure_loads, movement_loads, movement-moves, moved-held}
use Rattle.text_notes.proofs.Apart.{words-apart}
use Rattle.bac6_alike.proofs.Shape.{figure-moved}
use Rattle.tra4_alike.proofs.Shape.{movement-moved}
use Rattle.shoalbutton.specs.Requests.{Comments, Exponents, AnyOrder, standing_pose, LeftOut, NoDivider, WhyHidden}

int_same : (word : List ℕ) → number_of INT word ≡ fixed_of INT word
unfolding number_of
int_same word = refl

pub exponents : Exponents
exponents = record { taken = exponent_taken; power = exponent_power; malformed = exponent_wrong; added = exponent_new; without = exponent_free; whole = int_same }

shown_by_group : (bs : List Bone) (ps : List Pattern) (f : Face) (g at : ℕ) → shown_of bs ps (f, some g) at ≡ (all_owned bs f.vertices && state_by (deciding g at ps))
unfolding shown_of group_shown
shown_by_group bs ps f g at = refl

shown_of-polygons : (bs : List Bone) (ps : List Pattern) (f : Face) (at : ℕ) → shown_of bs ps (f, none) at ≡ all_owned bs f.vertices
unfolding shown_of group_shown
shown_of-polygons bs ps f at = go (all_owned bs f.vertices)
  where
    go : (v : Bool) → (v && true) ≡ v
    go true = refl
    go false = refl

pub any_order : AnyOrder
any_order =
    record {
      taken = patterns-taken;
      startless = startless;
      started = started;
      greatest = deciding-greatest;
      shown = shown_by_group;
      polygons = shown_of-polygons;
      rule = λ total before after p q e. rule_exchanged total p q after before e;
      state = state_exchanged;
      unfallen = unfallen;
    }

pose-keywords : map (λ p. p.0) standing_pose ≡ channel_names
unfolding channel_names
pose-keywords = refl

pose-decimals : map (λ p. number_of FLOAT (bytes p.1)) standing_pose ≡ map value pose
unfolding bytes between is_digit run decimal_from decimal signed not_empty all_digits millionths float_of number_from after_digits unsigned negative unsigned_part fixed_of in_mantissa mantissa with_exponent number_of pose
pose-decimals = refl

left_out-sampled : (text : List ℕ) (table : List ℤ) (m : Movement) → movement_answer text (length table) ≡ accepted m → (bone channel at : ℕ) → bone < length m.bones → channel < 10 → at < frames_of m → channel_of m bone channel ≡ [] → sample_in (movement_counts m) (movement_table text table) bone channel at ≡ some (whole (standing channel))
unfolding frames_of
left_out-sampled = sample_left_out

pub left_out : LeftOut
left_out =
    record {
      ends = bone-ends;
      read = channel-read;
      chunks = bone-chunks;
      kept = channel-kept;
      zeros = zero-range;
      laid = laid-range;
      keywords = pose-keywords;
      decimals = pose-decimals;
      default = λ channel at. sample_none channel [] at refl;
      written = sample-pose;
      pair = pair_none;
      sampled = left_out-sampled;
      zeros_sound = zeros-sound;
      other_row = other_row;
      below_zero = below-zero;
    }

text-sample-steps : (text : List ℕ) (table : List ℤ) (m : Movement) → movement_answer text (length table) ≡ accepted m → (bone channel at : ℕ) → bone < length m.bones → channel < 10 → at < frames_of m → Enough (steps_left 200 (unreduced_of channel (channel_of m bone channel) at))
unfolding frames_of
text-sample-steps text table m e bone channel at h k l =
    channel-steps m.total_frames at (frame_asked text table m e at l) channel (channel_of m bone channel) (channel-sound text table m e bone channel h k) (channel_values text table m e bone channel h k)

pub no_divider : NoDivider
no_divider = record { answer = sample-reduced; steps = sample-steps; text_steps = text-sample-steps; one_more = steps-one_more }

pub why_hidden : WhyHidden
why_hidden =
    record {
      text_reason = text_reason;
      table_reason = table_reason;
      text_owners = text_owners;
      table_owners = table_owners;
      text_shown = text-shown;
      text_refused = λ f m face at. refused_by (asked_shown f m face at);
      table_shown = table-shown;
      table_refused = λ n table m moves face at. refused_by (shown_in_lem n table m moves face at);
    }

pub comments : Comments
comments =
    record {
      one = gap-moved;
      passes = λ f text text' a. annotated-clear a;
      words = λ f text text' a. annotated-tokens a;
      apart = words-apart;
      again = λ f text text' last a b. annotates_again a b;
      figure_offsets = figure-moved;
      movement_offsets = movement-moved;
      figure_read = figure-same;
      movement_read = movement-same;
      figure_loaded = figure_loads;
      movement_loaded = movement_loads;
      movement_moved = movement-moves;
      moved_held = moved-held;
    }
