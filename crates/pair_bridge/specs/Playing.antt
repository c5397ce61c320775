-- What Sample, Shown, Corner and Label answer, and why a face is shown or hidden, from the two texts' lists alone (document 01, "Playing"; document 02, (iii)): the meaning of what exists, none of what does not.
use Rattle.std.specs.Prelude.{Bool, ◌&&◌, List, [], ℕ, ltb, nat_abs, length, get_or}
use Rattle.std.proofs.Math.Option.{Option}
use Rattle.bac6_text.specs.Figure.{Figure}
use Rattle.bac6_text.specs.Rules.{faces_of}
use Rattle.tra4_text.specs.Movement.{Movement}
use Rattle.player_spec.specs.Fractions.{Fraction}
use Rattle.player_spec.specs.Samples.{sample_of}
use Rattle.player_spec.specs.Faces.{CornerOf, corner_of, shown_of}
use Rattle.player_spec.specs.Reasons.{Reason, why_of}
use Rattle.player_spec.specs.Lookups.{only_if}
use Rattle.pair_text.specs.Rules.{figure_names, movement_names}
use Rattle.player_label.specs.Labels.{label_of}
use Rattle.movement_bridge.specs.Counts.{channel_of}
use Rattle.figure_bridge.specs.Rows.{face_of, grouped_face_of}

-- how many frames there are; rule 14 holds them to 1 and more
unfoldable pub frames_of : Movement → ℕ
frames_of m = nat_abs m.total_frames

unfoldable pub sample_asked : Movement → ℕ → ℕ → ℕ → Option Fraction
sample_asked m bone channel at =
    only_if (ltb bone (length m.bones) && ltb channel 10 && ltb at (frames_of m)) (sample_of channel (channel_of m bone channel) at)

unfoldable pub corner_asked : Figure → ℕ → ℕ → Option CornerOf
corner_asked f face k = only_if (ltb face (length (faces_of f)) && ltb k (face_of f face).size) (corner_of f (face_of f face) k)

unfoldable pub shown_asked : Figure → Movement → ℕ → ℕ → Option Bool
shown_asked f m face at =
    only_if (ltb face (length (faces_of f)) && ltb at (frames_of m)) (shown_of f.bones m.patterns (grouped_face_of f face) at)

unfoldable pub why_asked : Figure → Movement → ℕ → ℕ → Option Reason
why_asked f m face at =
    only_if (ltb face (length (faces_of f)) && ltb at (frames_of m)) (why_of f.bones m.patterns (grouped_face_of f face) at)

unfoldable pub label_asked : Figure → Movement → ℕ → Option (List ℕ)
label_asked f m bone =
    only_if (ltb bone (length f.bones) && ltb bone (length m.bones)) (label_of (get_or (figure_names f) bone []) (get_or (movement_names m) bone []))
