-- `step` is a step of the pass, by what its tests say of the next key.
use Rattle.std.proofs.Common.{◌≡◌, refl, sym, ap, ◌∙◌, [], ◌∷◌, true, ℤ, pos, to_z, of_z, SFits, w64, arith, rules}
use Rattle.std.specs.Prelude.{nat_abs, is_some}
use Rattle.std.proofs.Math.Option.{some}
use Rattle.std.proofs.lemmas.Int.{to_z-of_z}
use Rattle.tra4_text.specs.Rules.{key_fine}
use Rattle.player_spec.specs.Lookups.{is_float}
use Rattle.player_tests.proofs.Numbers.{float_most}
use Rattle.table_columns.proofs.Casts.{natural_cast}
use Rattle.player_channel.specs.Internal.Answers.{ratio}
use Rattle.player_channel.specs.Internal.Passing.{key_of, fraction}
use Rattle.player_channel.proofs.Stepping.{refute, no_sample, frame_facts, not_following, not_float, known_on, open_on, passed_on, ready_on}
use Rattle.player_channel.proofs.pass.step.Goals as goal
use Rattle.player_channel.proofs.pass.step.Goals.{After-follows, Else-not-is_float, then-not-follows-via-then-not-follows, then-not-follows-via-else-not-follows+then-not-is_float, then-is_some-via-then-is_some, then-is_some-via-else-is_some+then-g-at}

-- the test of the frame
told : (c : After-follows) → let a = c.args in c.follows.result ≡ key_fine a.total (some (pos a.p.before)) (a.f ∷ a.v ∷ [])
told c = rw (to_z-of_z _ _ c.ranges.total, to_z-of_z _ _ c.ranges.f) at (c.follows.ensures c.args.v)

pub returns-then-not-follows-clause-ks_value : goal.returns-then-not-follows-clause-ks_value
returns-then-not-follows-clause-ks_value c ks =
    let a = c.args in
    let m = (goal.at.returns-then-not-follows-clause-ks_value c).After-follows in
    elim c.then-not-follows.branch [
      | then-not-follows-via-then-not-follows w ↦ not_following a.p a.f a.v a.total a.at (sym (told m) ∙ w.if-not-follows.true) ks
      | then-not-follows-via-else-not-follows+then-not-is_float w ↦
          not_float a.p a.f a.v a.total a.at (sym (told m) ∙ w.if-not-follows.false) (sym (rw (to_z-of_z _ _ c.ranges.v) at w.is_float.ensures) ∙ w.if-not-is_float.true) ks
    ]

-- both tests passed
sound : (c : Else-not-is_float) → let a = c.args in key_fine a.total (some (pos a.p.before)) (a.f ∷ a.v ∷ []) ≡ true
sound c = sym (rw (to_z-of_z _ _ c.ranges.total, to_z-of_z _ _ c.ranges.f) at (c.follows.ensures c.args.v)) ∙ c.if-not-follows.false

float : (c : Else-not-is_float) → is_float c.args.v ≡ true
float c = sym (rw (to_z-of_z _ _ c.ranges.v) at c.is_float.ensures) ∙ c.if-not-is_float.false

pub overflow_cast-g : goal.overflow_cast-g
overflow_cast-g c =
    let a = c.args in
    natural_cast _ c.ranges.f (frame_facts a.total a.f a.v a.p.before (sound (goal.at.overflow_cast-g c).Else-not-is_float)).0

pub returns-then-is_some-clause-ks_value : goal.returns-then-is_some-clause-ks_value
returns-then-is_some-clause-ks_value c ks =
    let a = c.args in
    let e = (goal.at.returns-then-is_some-clause-ks_value c).Else-not-is_float in
    let f = to_z-of_z _ _ c.ranges.f in
    let v = to_z-of_z _ _ c.ranges.v in
    elim c.then-is_some.branch [
      | then-is_some-via-then-is_some w ↦ known_on a.p a.f a.v a.total a.at (sound e) (float e) _ (ap nat_abs f) v refl (sym c.is_some.ensures ∙ w.if-is_some.true) ks
      | then-is_some-via-else-is_some+then-g-at w ↦ open_on a.p a.f a.v a.total a.at (sound e) (float e) _ (ap nat_abs f) v refl (rw f at w.if-g-at.true) ks
    ]

pub returns-then-is_some-clause-ready : goal.returns-then-is_some-clause-ready
returns-then-is_some-clause-ready c =
    let a = c.args in
    let e = (goal.at.returns-then-is_some-clause-ready c).Else-not-is_float in
    let f = to_z-of_z _ _ c.ranges.f in
    let v = to_z-of_z _ _ c.ranges.v in
    ready_on a.p a.f a.v a.total a.at (sound e) (float e) c.requires _ (ap nat_abs f) v
    (λ k. elim c.then-is_some.branch [
      | then-is_some-via-then-is_some w ↦ refute (sym (c.is_some.ensures ∙ ap is_some k) ∙ w.if-is_some.true)
      | then-is_some-via-else-is_some+then-g-at w ↦ rw f at w.if-g-at.true
    ])

pub line-r-requires : goal.line-r-requires
line-r-requires c =
    let a = c.args in
    let e = (goal.at.line-r-requires c).Else-not-is_float in
    let f = to_z-of_z _ _ c.ranges.f in
    let k : SFits w64 a.p.value = search rules in
    let m = (frame_facts a.total a.f a.v a.p.before (sound e)).1 in (
      rw (to_z-of_z _ _ k) c.requires.value,
      rw (to_z-of_z _ _ c.ranges.v) (float_most a.v (float e)),
      c.requires.open_yet (no_sample _ (sym c.is_some.ensures ∙ c.if-is_some.false)),
      c.if-g-at.false,
      rw f (let t = c.requires.frames in omega arith),
    )

pub returns-clause-ks_value : goal.returns-clause-ks_value
unfolding ratio fraction key_of
returns-clause-ks_value c ks =
    let a = c.args in
    let e = (goal.at.returns-clause-ks_value c).Else-not-is_float in
    let f = to_z-of_z _ _ c.ranges.f in
    let v = to_z-of_z _ _ c.ranges.v in
    let k : SFits w64 a.p.value = search rules in
    let n : SFits w64 c.line-r.result.numerator = search rules in
    passed_on a.p a.f a.v a.total a.at (sound e) (float e) _ (ap nat_abs f) (ap (λ (z : ℤ). to_z w64 (of_z w64 z)) v ∙ v) (no_sample _ (sym c.is_some.ensures ∙ c.if-is_some.false)) (rw f at c.if-g-at.false) _ refl
    (rw (to_z-of_z _ _ n) (rw (to_z-of_z _ _ k, f, v) at c.line-r.ensures.0))
    ks

pub returns-clause-ready : goal.returns-clause-ready
returns-clause-ready c =
    let a = c.args in
    let e = (goal.at.returns-clause-ready c).Else-not-is_float in
    let f = to_z-of_z _ _ c.ranges.f in
    let v = to_z-of_z _ _ c.ranges.v in
    ready_on a.p a.f a.v a.total a.at (sound e) (float e) c.requires _ (ap nat_abs f) (ap (λ (z : ℤ). to_z w64 (of_z w64 z)) v ∙ v) (λ k. cc)
