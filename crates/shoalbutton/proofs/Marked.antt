-- Each marked case is as 01 says, by computation.
use mathlib.Core.Path.{◌≡◌, refl}
use mathlib.Core.List.{map}
use Rattle.text_bytes.specs.Bytes.{bytes, between, is_digit}
use Rattle.text_runs.specs.Runs.{run}
use Rattle.text_numerals.specs.Numbers.{decimal_from, decimal, signed, not_empty, all_digits, int_most, whole_of, int_of, millionths, float_of, number_from, after_digits, unsigned, negative, unsigned_part, fixed_of, in_mantissa, mantissa, with_exponent, number_of, refusal_of}
use Rattle.bac6_text.specs.Rules.{is_set, joined, then_if, bone_list, whole_list, placed_fault, parents_in, bones_fault}
use Rattle.tra4_text.specs.Movement.{frame_of}
use Rattle.player_spec.specs.Fractions.{factor_in, factor, signed_as, lowest, whole}
use Rattle.player_spec.specs.Samples.{key_frame, key_value, line, sample_from, sample_of}
use Rattle.shoalbutton.specs.Marked.{says_number, says_bones, says_sample, value_of, channel, ruled, marked}

pub marked_cases : map (λ c. ruled c.0) marked ≡ map (λ c. c.1) marked
unfolding bytes between is_digit run decimal_from decimal signed not_empty all_digits int_most whole_of int_of millionths float_of number_from after_digits unsigned negative unsigned_part fixed_of in_mantissa mantissa with_exponent number_of refusal_of is_set joined then_if bone_list whole_list placed_fault parents_in bones_fault frame_of factor_in factor signed_as lowest whole key_frame key_value line sample_from sample_of says_number says_bones says_sample value_of channel ruled
marked_cases = refl
