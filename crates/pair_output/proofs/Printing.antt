-- What is printed by what `load` answers and leaves is what is printed of the two texts, by cases on the pair; and how long it is at most.
use mathlib.Core.Path.{◌≡◌, refl, ap, sym, ◌∙◌, fun_ext}
use mathlib.Core.List.{List, [], ◌∷◌}
use mathlib.Core.Option.{Option}
use Prim.Native.Nat.{ℕ, ◌*◌, ◌≤◌}
use native.Mathlib.Omega.{arith}
use lib.IntN.{ℤ, pos}
use lib.ListN.{length, take, replicate, length-append, length-replicate}
use lib.Seq.{length-take-le}
use Rattle.text_runs.specs.Runs.{part}
use Rattle.io.specs.Counts.{IsPrefixLen}
use Rattle.report_text.specs.Output.{Output, output, appended}
use Rattle.report_lists.specs.Lists.{appended_each, text_of}
use Rattle.report_lists.proofs.Texts.{each_within, each_whole}
use Rattle.bac6_text.specs.Figure.{Figure}
use Rattle.bac6.specs.Answers as bac6
use Rattle.tra4_text.specs.Movement.{Movement}
use Rattle.table_figure.proofs.Mosts.{figure_small}
use Rattle.player_label.specs.Labels.{or_empty}
use Rattle.report_lists.specs.Parts.{lines_from}
use Rattle.pair_text.specs.Answer.{Loaded, refused, loaded, pair_answer, figure_left, movement_of, movement_left}
use Rattle.pair_bridge.specs.Playing.{label_asked}
use Rattle.pair_bridge.proofs.Lookups.{figure_holds_read}
use Rattle.pair_load.specs.Answers.{pair_reply}
use Rattle.table_counts.specs.Counts.{no_figure}
use Rattle.pair_load.specs.declared.pair.PairAnswer.{PairAnswer}
use Rattle.pair_laws.proofs.Parts.{parts_taken}
use Rattle.pair_laws.proofs.Loaded.{every_label}
use Rattle.pair_head.specs.Division.{divided}
use Rattle.pair_head.specs.Answers.{division_named}
use Rattle.std.proofs.Common.{Result, Ok, Err}
use Rattle.refusal.specs.declared.checked.Refusal.{Refusal}
use Rattle.pair_listing.specs.Lines.{reply_line}
use Rattle.pair_listing.proofs.Replies.{reply-most}
use Rattle.label_listing.specs.Lines.{label_parts, labels_in}
use Rattle.pair_output.specs.Printing.{pair_lines, texts_lines, divided_lines, input_lines, input_text}
use Rattle.bac6_text.specs.Rules.{figure_counts}

lines_same : (f g : ℕ → List (List ℕ)) → ((i : ℕ) → f i ≡ g i) → (at k : ℕ) → lines_from f at k ≡ lines_from g at k
lines_same f g e at k = ap (λ (h : ℕ → List (List ℕ)). lines_from h at k) (fun_ext e)

-- the reply's line
reply_of : PairAnswer → List ℕ
reply_of a = reply_line a.refusal a.place a.file a.figure_total a.movement_total

module _ (F : List ℕ) (table : List ℤ) (M : List ℕ) (moves : List ℤ) where
  abbrev pub pair : Loaded (Figure × Movement)
  pair = pair_answer F (length table) M (length moves)

  -- the labels on what `load` answers and leaves
  abbrev labels_left : Loaded (Figure × Movement) → List (List ℕ)
  labels_left l = labels_in F (pair_reply l).figure (figure_left table l) M (pair_reply l).movement (movement_left moves (movement_of l))

  no_labels : (n p file : ℕ) → labels_left (refused n p file) ≡ []
  unfolding labels_in pair_reply no_figure lines_from
  no_labels n p file = refl

  bone_count : (f : Figure) (m : Movement) → (pair_reply (loaded (f, m))).figure.bones ≡ length f.bones
  unfolding pair_reply figure_counts
  bone_count f m = refl

  labels_are : (f : Figure) (m : Movement) → pair ≡ loaded (f, m) → labels_left pair ≡ lines_from (λ bone. label_parts bone (or_empty (label_asked f m bone))) 0 (length f.bones)
  unfolding labels_in
  labels_are f m e =
      lines_same _ _ (λ bone. ap (λ (o : Option (List ℕ)). label_parts bone (or_empty o)) (every_label F table M moves f m e bone)) 0 (pair_reply pair).figure.bones
      ∙ ap (lines_from (λ bone. label_parts bone (or_empty (label_asked f m bone))) 0) (ap (λ (l : Loaded (Figure × Movement)). (pair_reply l).figure.bones) e ∙ bone_count f m)

  lines_are : reply_of (pair_reply pair) ∷ labels_left pair ≡ pair_lines pair
  unfolding reply_of pair_reply pair_lines
  lines_are = go pair refl
    where
      go : (l : Loaded (Figure × Movement)) → pair ≡ l → reply_of (pair_reply pair) ∷ labels_left pair ≡ pair_lines pair
      go (refused n p file) e = rw e (ap (λ (ls : List (List ℕ)). reply_line n p file 0 0 ∷ ls) (no_labels n p file))
      go (loaded (f, m)) e = ap (λ (ls : List (List ℕ)). reply_of (pair_reply pair) ∷ ls) (labels_are f m e) ∙ rw e

  few_bones : (pair_reply pair).figure.bones ≤ 128
  unfolding pair_reply no_figure
  few_bones = go pair refl
    where
      go : (l : Loaded (Figure × Movement)) → pair ≡ l → (pair_reply pair).figure.bones ≤ 128
      go (refused n p file) e = rw e (omega arith)
      go (loaded (f, m)) e = rw e (figure_small _ _ (figure_holds_read F table f (parts_taken F (length table) M (length moves) f m e).figure)).5

  -- the reply and then the labels put: what is said of how many bytes are filled and of the buffer
  module _ (a : PairAnswer) (T U : List ℤ) (ea : a ≡ pair_reply pair) (et : T ≡ figure_left table pair) (eu : U ≡ movement_left moves (movement_of pair)) where
    abbrev labels_put : List (List ℕ)
    labels_put = labels_in F a.figure T M a.movement U

    lines_put : reply_of a ∷ labels_put ≡ pair_lines pair
    lines_put = rw (ea, et, eu) lines_are

    lines_most : length (text_of labels_put) ≤ a.figure.bones * 283 → length (text_of (reply_of a ∷ labels_put)) ≤ 36295
    unfolding text_of reply_of
    lines_most h =
        let b : a.figure.bones ≤ 128 = rw ea few_bones in
        omega (arith, length-append (reply_of a) (text_of labels_put), reply-most a.refusal a.place a.file a.figure_total a.movement_total)

    pub texts-put :
        (n r : ℕ) (buf part buf' : List ℕ) →
        output n part ≡ appended (output 0 buf) (reply_line a.refusal a.place a.file a.figure_total a.movement_total) →
        output r buf' ≡ appended_each (output n part) labels_put →
        length (text_of labels_put) ≤ a.figure.bones * 283 →
        (output r buf' ≡ appended_each (output 0 buf) (pair_lines pair)) × (length (text_of (pair_lines pair)) ≤ 36295)
    unfolding appended_each reply_of
    texts-put n r buf part buf' p q h =
        let put : output r buf' ≡ appended_each (output 0 buf) (reply_of a ∷ labels_put) = q ∙ ap (λ (o : Output). appended_each o labels_put) p in
        (put ∙ ap (appended_each (output 0 buf)) lines_put, rw lines_put at (lines_most h))

-- ---- the tables of zeros

unfoldable pub start_table : List ℤ
start_table = replicate 8192 (pos 0)

unfoldable pub start_moves : List ℤ
start_moves = replicate 11779 (pos 0)

pub start_lines : (F M : List ℕ) → pair_lines (pair F start_table M start_moves) ≡ texts_lines F M
unfolding start_table start_moves texts_lines
start_lines F M = rw (length-replicate 8192 (pos 0), length-replicate 11779 (pos 0))

-- ---- an input

-- what is said of lines that are put at the start of a buffer
abbrev pub Told : List (List ℕ) → ℕ → List ℕ → List ℕ → Type 0
Told lines r buf buf' = (output r buf' ≡ appended_each (output 0 buf) lines) × (IsPrefixLen r buf' × (36295 ≤ length buf → take r buf' ≡ text_of lines))

pub told : (lines : List (List ℕ)) (r : ℕ) (buf buf' : List ℕ) → output r buf' ≡ appended_each (output 0 buf) lines → length (text_of lines) ≤ 36295 → Told lines r buf buf'
told lines r buf buf' e h =
    let w = each_within 0 r buf buf' lines e (omega arith) in
    (e, ((w, sym (length-take-le r buf' w)), λ k. each_whole r buf buf' lines e (omega arith)))

module _ (text : List ℕ) (more r : ℕ) (buf buf' : List ℕ) (d : Result ℕ Refusal) (e : division_named d ≡ divided text more) where
  abbrev Said : Type 0
  Said = (output r buf' ≡ appended_each (output 0 buf) (input_lines text more)) × (IsPrefixLen r buf' × (36295 ≤ length buf → take r buf' ≡ input_text text more))

  input_refused : (x : Refusal) → d ≡ Err x → input_lines text more ≡ reply_line x.number 0 0 0 0 ∷ []
  unfolding input_lines divided_lines division_named
  input_refused x q = rw (sym e, q)

  input_figure : (end : ℕ) → d ≡ Ok end → input_lines text more ≡ texts_lines (part text 9 end) (part text end (length text))
  unfolding input_lines divided_lines division_named
  input_figure end q = rw (sym e, q)

  pub said_refused : (x : Refusal) → d ≡ Err x → output r buf' ≡ appended (output 0 buf) (reply_line x.number 0 0 0 0) → Said
  unfolding input_text appended_each text_of
  said_refused x q p =
      let n = x.number in
      let short : length (text_of (reply_line n 0 0 0 0 ∷ [])) ≤ 36295 = omega (arith, length-append (reply_line n 0 0 0 0) [], reply-most n 0 0 0 0) in
      rw (input_refused x q) (told (reply_line n 0 0 0 0 ∷ []) r buf buf' p short)

  pub said_figure : (end : ℕ) → d ≡ Ok end → (F M : List ℕ) → F ≡ part text 9 end → M ≡ part text end (length text) → (output r buf' ≡ appended_each (output 0 buf) (texts_lines F M)) × (length (text_of (texts_lines F M)) ≤ 36295) → Said
  unfolding input_text
  said_figure end q F M f m p =
      let s : Told (texts_lines F M) r buf buf' = told (texts_lines F M) r buf buf' p.0 p.1 in
      rw (input_figure end q) (rw (f, m) at s)
