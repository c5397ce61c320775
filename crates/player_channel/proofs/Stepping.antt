-- A step of the pass: a key at fault ends it, any other is the last key of the next state.
use mathlib.Core.Path.{◌≡◌, refl, ap, sym, ◌∙◌}
use mathlib.Core.List.{List, [], ◌∷◌}
use mathlib.Core.Bool.{Bool, true, false, ◌&&◌}
use mathlib.Core.Option.{Option, none, some}
use Prim.Native.Nat.{ℕ, ◌≤◌, ◌<◌}
use native.Mathlib.Omega.{arith}
use borrow.Author.Tests.{lt-ltb, le-ltb}
use lib.IntN.{ℤ, pos, nat_abs}
use Rattle.tra4_text.specs.Movement.{Key, frame_of}
use Rattle.tra4_text.specs.Rules.{key_fine}
use Rattle.player_channel.specs.declared.channel.Sample.{Sample}
use Rattle.player_channel.specs.declared.pass.Pass.{Pass}
use Rattle.std.specs.Prelude.{Option as Answer, Some, None, is_some}
use Rattle.player_spec.specs.Fractions.{Fraction}
use Rattle.player_spec.specs.Samples.{key_frame, key_value, line}
use Rattle.player_spec.specs.Lookups.{is_float}
use Rattle.player_tests.proofs.KeyFrames.{key_frame_lem}
use Rattle.player_tests.proofs.Numbers.{float_most}
use Rattle.player_channel.specs.Internal.Pass.{may_follow, decided, pass_from}
use Rattle.player_channel.specs.Internal.Passing.{key_of, fraction, known, state_of, then_from, Ready}

pub refute : {A : Type 0} → ◌≡◌ {A = Bool} false true → A
refute e = let z : ◌≡◌ {A = ℕ} 0 1 = cc in absurd (omega (arith, z))

pub no_sample : {A : Type 0} (d : Answer A) → is_some d ≡ false → d ≡ None
no_sample None e = refl
no_sample (Some s) e = refute (sym e)

pub frame_facts : (total f v : ℤ) (b : ℕ) → key_fine total (some (pos b)) (f ∷ v ∷ []) ≡ true → (f ≡ pos (nat_abs f)) × (nat_abs f < nat_abs total)
unfolding frame_of
frame_facts total f v b h = key_frame_lem total (some (pos b)) (f ∷ v ∷ []) h

module _ (p : Pass) (f v total : ℤ) (at : ℕ) where
  abbrev pub next : Key
  next = f ∷ v ∷ []

  -- the two tests
  may : (a b : Bool) → key_fine total (some (pos p.before)) next ≡ a → is_float v ≡ b → may_follow total (some (key_of p)) next ≡ (a && b)
  unfolding may_follow key_of frame_of key_value
  may a b e h = rw (e, h)

  at-fault : may_follow total (some (key_of p)) next ≡ false → (ks : List Key) → pass_from total at (key_of p) (state_of p) (next ∷ ks) ≡ then_from total at None ks
  unfolding pass_from then_from
  at-fault m ks = rw (m, pass_from)

  pub not_following : key_fine total (some (pos p.before)) next ≡ false → (ks : List Key) → pass_from total at (key_of p) (state_of p) (next ∷ ks) ≡ then_from total at None ks
  not_following h = at-fault (may false (is_float v) h refl)

  pub not_float : key_fine total (some (pos p.before)) next ≡ true → is_float v ≡ false → (ks : List Key) → pass_from total at (key_of p) (state_of p) (next ∷ ks) ≡ then_from total at None ks
  not_float h g = at-fault (may true false h g)

  module _ (h : key_fine total (some (pos p.before)) next ≡ true) (g : is_float v ≡ true) where
    turned : (ks : List Key) → pass_from total at (key_of p) (state_of p) (next ∷ ks) ≡ pass_from total at next (decided (state_of p) (key_of p) next at) ks
    unfolding pass_from
    turned ks = rw (may true true h g, pass_from)

    onward : (r : Pass) → key_of r ≡ next → state_of r ≡ decided (state_of p) (key_of p) next at → (ks : List Key) → pass_from total at (key_of p) (state_of p) (next ∷ ks) ≡ then_from total at (Some r) ks
    unfolding then_from
    onward r k s ks = turned ks ∙ sym (ap (λ (n : Key). pass_from total at n (state_of r) ks) k ∙ ap (λ (d : Option Fraction). pass_from total at next d ks) s)

    key-is : (r : Pass) → r.before ≡ nat_abs f → r.value ≡ v → key_of r ≡ next
    unfolding key_of
    key-is r e i = ap (λ (n : ℕ). pos n ∷ r.value ∷ []) e ∙ ap (λ (z : ℤ). pos (nat_abs f) ∷ z ∷ []) i ∙ ap (λ (z : ℤ). z ∷ v ∷ []) (sym (frame_facts total f v p.before h).0)

    -- the sample is known already
    pub known_on : (r : Pass) → r.before ≡ nat_abs f → r.value ≡ v → r.sample ≡ p.sample → is_some p.sample ≡ true → (ks : List Key) → pass_from total at (key_of p) (state_of p) (next ∷ ks) ≡ then_from total at (Some r) ks
    known_on r b i l k = onward r (key-is r b i) (unfold state_of in (ap known l ∙ sym (kept p.sample k)))
      where
        kept : (d : Answer Sample) → is_some d ≡ true → decided (known d) (key_of p) next at ≡ known d
        kept (Some s) e = unfold decided known in refl
        kept None e = refute e

    -- its frame is not passed yet
    pub open_on : (r : Pass) → r.before ≡ nat_abs f → r.value ≡ v → r.sample ≡ p.sample → nat_abs f ≤ at → (ks : List Key) → pass_from total at (key_of p) (state_of p) (next ∷ ks) ≡ then_from total at (Some r) ks
    open_on r b i l m = onward r (key-is r b i) (unfold state_of in (ap known l ∙ sym (still p.sample)))
      where
        still : (d : Answer Sample) → decided (known d) (key_of p) next at ≡ known d
        still (Some s) = unfold decided known in refl
        still None = unfold decided known key_frame frame_of in (rw (le-ltb at (nat_abs f) m, decided))

    -- it is passed now
    pub passed_on : (r : Pass) → r.before ≡ nat_abs f → r.value ≡ v → p.sample ≡ None → at < nat_abs f → (s : Sample) → r.sample ≡ Some s → fraction s ≡ line (key_of p) (pos (nat_abs f) ∷ v ∷ []) at → (ks : List Key) → pass_from total at (key_of p) (state_of p) (next ∷ ks) ≡ then_from total at (Some r) ks
    passed_on r b i k m s l q = onward r (key-is r b i) (found ∙ sym (ap (λ (x : Option Fraction). decided x (key_of p) next at) none_yet ∙ fell))
      where
        none_yet : state_of p ≡ none
        none_yet = unfold state_of known in (ap known k)

        found : state_of r ≡ some (line (key_of p) next at)
        found = unfold state_of known in (ap known l ∙ ap some (q ∙ ap (λ (z : ℤ). line (key_of p) (z ∷ v ∷ []) at) (sym (frame_facts total f v p.before h).0)))

        fell : decided none (key_of p) next at ≡ some (line (key_of p) next at)
        fell = unfold decided key_frame frame_of in (rw (lt-ltb at (nat_abs f) m, decided))

    -- the numbers stay small
    pub ready_on : Ready p total at → (r : Pass) → r.before ≡ nat_abs f → r.value ≡ v → (r.sample ≡ None → nat_abs f ≤ at) → Ready r total at
    ready_on y r b i o =
        record {
          frames = y.frames;
          last = rw b (let l = (frame_facts total f v p.before h).1 in let m = y.frames in omega arith);
          value = rw i (float_most v g);
          open_yet = λ k. rw b (o k);
        }
