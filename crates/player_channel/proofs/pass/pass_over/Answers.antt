-- The pose where there is no key, else the first is tested alone, and each turn is one step of the pass.
use Rattle.std.proofs.Common.{◌≡◌, sym, ap, ◌∙◌, ◌+◌, ◌*◌, ◌-◌, List, [], ◌∷◌, pos, get_or, SFits, w64, arith, rules}
use Rattle.std.proofs.lemmas.Int.{to_z-of_z}
use Rattle.table_columns.specs.Parts.{rows_at}
use Rattle.tra4_text.specs.Movement.{Key}
use Rattle.tra4_text.proofs.Zero.{zero_no, zero_yes}
use Rattle.player_tests.proofs.Numbers.{float_most}
use Rattle.player_channel.specs.Internal.Pass.{pass_from, pass_over}
use Rattle.player_channel.specs.Internal.Passing.{key_of, state_of, finished}
use Rattle.player_channel.proofs.Walked.{at_rest, left_more, first_late, first_wide, first_on, ended, stopped, goes_on}
use Rattle.player_channel.proofs.pass.pass_over.Goals as goal
use Rattle.player_channel.proofs.pass.pass_over.Goals.{After-step, then-keys-ne0-via-then-keys-ne0, then-keys-ne0-via-else-keys-ne0+then-not-is_float}

pub returns-then-count-eq0 : goal.returns-then-count-eq0
returns-then-count-eq0 c =
    let f : SFits w64 c.standing.result = search rules in
    at_rest _ _ _ _ c.requires _ _ c.if-count-eq0.true (rw (to_z-of_z _ _ f ∙ c.standing.ensures) at c.begun.ensures)

pub returns-then-keys-ne0 : goal.returns-then-keys-ne0
unfolding finished
returns-then-keys-ne0 c =
    let f : SFits w64 (get_or c.args.keys.now 0 (pos 0)) = search rules in
    let v : SFits w64 (get_or c.args.keys.now 1 (pos 0)) = search rules in
    elim c.then-keys-ne0.branch [
      | then-keys-ne0-via-then-keys-ne0 w ↦ first_late _ _ _ _ c.requires _ c.if-count-eq0.false (zero_no _ w.if-keys-ne0.true)
      | then-keys-ne0-via-else-keys-ne0+then-not-is_float w ↦
          first_wide _ _ _ _ c.requires _ c.if-count-eq0.false (zero_yes _ f w.if-keys-ne0.false) (sym (rw (to_z-of_z _ _ v) at w.is_float.ensures) ∙ w.if-not-is_float.true)
    ]

pub loop-i-init : goal.loop-i-init
loop-i-init c =
    let f : SFits w64 (get_or c.args.keys.now 0 (pos 0)) = search rules in
    let g : SFits w64 (get_or c.args.keys.now 1 (pos 0)) = search rules in
    let t = to_z-of_z _ _ c.ranges.total in
    let v = to_z-of_z _ _ g in
    let float = sym (rw v at c.is_float.ensures) ∙ c.if-not-is_float.false in
    let b = rw v at c.begun-p.ensures in (
      rw t (first_on _ _ _ _ c.requires _ c.if-count-eq0.false _ b (zero_yes _ f c.if-keys-ne0.false) float),
      record { frames = rw t c.requires.frames; last = omega (arith, b.start); value = rw b.here (float_most _ float); open_yet = λ k. omega (arith, b.start) },
    )

-- a turn: the next key, and the keys left
next : (c : After-step) → let a = c.args in let l = c.loop-i in pass_over a.total a.channel a.at (rows_at 2 a.keys.now 0 a.count) ≡ pass_from a.total a.at (key_of l.p) (state_of l.p) ((get_or a.keys.now (l.i * 2) (pos 0) ∷ get_or a.keys.now (l.i * 2 + 1) (pos 0) ∷ []) ∷ rows_at 2 a.keys.now ((l.i + 1) * 2) (a.count - (l.i + 1)))
next c =
    let a = c.args in
    let l = c.loop-i in
    (rw (to_z-of_z _ _ c.ranges.total) at l.invariant.0) ∙ ap (λ (ks : List Key). pass_from a.total a.at (key_of l.p) (state_of l.p) ks) (left_more a.keys.now a.count a.total a.at c.requires l.i c.loop-i-test.true)

frame : (c : After-step) → SFits w64 (get_or c.args.keys.now (c.loop-i.i * 2) (pos 0))
frame c = search rules

value : (c : After-step) → SFits w64 (get_or c.args.keys.now (c.loop-i.i * 2 + 1) (pos 0))
value c = search rules

pub returns-in_err-p : goal.returns-in_err-p
unfolding finished
returns-in_err-p c =
    let m = (goal.at.returns-in_err-p c).After-step in
    let rest = rows_at 2 c.args.keys.now ((c.loop-i.i + 1) * 2) (c.args.count - (c.loop-i.i + 1)) in
    ap finished c.from_residual.ensures
    ∙ sym (next m ∙ (rw (to_z-of_z _ _ c.ranges.total, to_z-of_z _ _ (frame m), to_z-of_z _ _ (value m)) at (c.in_err-p.ensures.ks_value rest)) ∙ sym (stopped _ _ rest))

pub loop-i-preserved : goal.loop-i-preserved
loop-i-preserved c =
    let m = (goal.at.loop-i-preserved c).After-step in
    let t = to_z-of_z _ _ c.ranges.total in
    let rest = rows_at 2 c.args.keys.now ((c.loop-i.i + 1) * 2) (c.args.count - (c.loop-i.i + 1)) in (
      rw t (next m ∙ (rw (t, to_z-of_z _ _ (frame m), to_z-of_z _ _ (value m)) at (c.in_ok-p.ensures.ks_value rest)) ∙ goes_on _ _ _ rest),
      rw t (rw t at c.in_ok-p.ensures.ready),
    )

pub returns : goal.returns
returns c =
    let l = c.loop-i in
    ended _ _ _ _ c.requires l.p l.i c.loop-i-test.false ∙ sym (rw (to_z-of_z _ _ c.ranges.total) at l.invariant.0)
