-- What holds of the fields that chunks in a free order leave: as many as there are kinds, of each that was read what holds of its kind's values, and each that must stand was read.
use mathlib.Core.Path.{◌≡◌, refl, ap, sym, ◌∙◌}
use mathlib.Core.List.{List, [], ◌∷◌}
use mathlib.Core.Bool.{Bool, true, false, not, ◌||◌, false≢true}
use mathlib.Core.Option.{Option, none, some}
use Prim.Native.Nat.{ℕ, zero, suc, ◌+◌}
use native.Mathlib.Omega.{arith}
use lib.ListN.{length, get_or}
use Rattle.text_bytes.specs.Bytes.{bytes}
use Rattle.text_tokens.specs.Tokens.{Lexeme, is_keyword}
use Rattle.text_numerals.proofs.Numerals.{and_true}
use Rattle.parse_spec.specs.Readers.{got, Reader, stop, token_of, rest}
use Rattle.text_kinds.specs.Kinds.{is_closing}
use Rattle.parse_spec.specs.Fields.{Kind, is_some, unread, complete, kind_from, fields_in, fields}
use Rattle.parse_spec.specs.Internal.Fields.{needed_of}
use Rattle.parse_spec.proofs.Given.{GivesOn, pure-gives, stop-gives, next_gives, later_gives, same_gives, either_gives, bind-gives, then_gives, open_leaves}

-- at the ) that ends the chunks
unfoldable ended : {A : Type 0} → List (Kind A) → List (Option A) → Reader (List (Option A))
ended ks fs ms = elim (complete ks fs) [ true ↦ got fs (rest ms) | false ↦ stop 5 ms ]

module _ {A : Type 0} (F : ℕ → A → Type 0) where
  -- what stands in kind i gives values of F i
  abbrev pub AllGive : (Lexeme → Type 0) → ℕ → List (Kind A) → Type 0
  AllGive Q i [] = Unit {0}
  AllGive Q i (k ∷ ks) = GivesOn Q (F i) k.inside × AllGive Q (suc i) ks

  abbrev pub AllFit : ℕ → List (Option A) → Type 0
  AllFit i [] = Unit {0}
  AllFit i (none ∷ fs) = AllFit (suc i) fs
  AllFit i (some a ∷ fs) = F i a × AllFit (suc i) fs

  pub record Whole (ks : List (Kind A)) (fs : List (Option A)) : Type 0 where
    pub fit : AllFit 0 fs
    pub stand : complete ks fs ≡ true
    pub count : length fs ≡ length ks

  module _ (Q : Lexeme → Type 0) where
    -- as many fields as there were
    abbrev Still : ℕ → List (Option A) → List (Option A) → Type 0
    Still i fs gs = AllFit i gs × (length gs ≡ length fs)

    kind_fits : (i : ℕ) (ks : List (Kind A)) (fs : List (Option A)) → AllGive Q i ks → AllFit i fs → GivesOn Q (Still i fs) (kind_from ks fs)
    unfolding kind_from
    kind_fits i [] fs g h = stop-gives 5
    kind_fits i (k ∷ ks) [] g h = stop-gives 5
    kind_fits i (k ∷ ks) (none ∷ fs) g h =
        either_gives (λ ms. is_keyword (bytes k.key) (token_of ms)) (later_gives (bind-gives g.0 (λ a q. pure-gives {P = Still i (none ∷ fs)} (some a ∷ fs) ((q, h), refl)))) (bind-gives (kind_fits (suc i) ks fs g.1 h) (λ hs q. pure-gives {P = Still i (none ∷ fs)} (none ∷ hs) (q.0, ap suc q.1))) (λ ms o. rw (o, kind_from)) (λ ms o. rw (o, kind_from))
    kind_fits i (k ∷ ks) (some a ∷ fs) g h = bind-gives (kind_fits (suc i) ks fs g.1 h.1) (λ hs q. pure-gives {P = Still i (some a ∷ fs)} (some a ∷ hs) ((h.0, q.0), ap suc q.1))

    ended-fits : (ks : List (Kind A)) (fs : List (Option A)) → AllFit 0 fs → length fs ≡ length ks → GivesOn Q (Whole ks) (ended ks fs)
    unfolding ended
    ended-fits ks fs h c = go (complete ks fs) refl
      where
        go : (v : Bool) → complete ks fs ≡ v → GivesOn Q (Whole ks) (ended ks fs)
        go true o = same_gives (next_gives fs (record { fit = h; stand = o; count = c })) (λ ms. rw (o, ended))
        go false o = same_gives (stop-gives 5) (λ ms. rw (o, ended))

    fields_in_fit : (n : ℕ) (ks : List (Kind A)) (fs : List (Option A)) → AllGive Q 0 ks → AllFit 0 fs → length fs ≡ length ks → GivesOn Q (Whole ks) (fields_in n ks fs)
    unfolding fields_in ended
    fields_in_fit zero ks fs g h c = either_gives (λ ms. is_closing (token_of ms)) (ended-fits ks fs h c) (stop-gives 5) (λ ms o. rw (o, fields_in)) (λ ms o. rw (o, fields_in))
    fields_in_fit (suc n) ks fs g h c = either_gives (λ ms. is_closing (token_of ms)) (ended-fits ks fs h c) (bind-gives (then_gives open_leaves (kind_fits 0 ks fs g h)) (λ hs q. fields_in_fit n ks hs g q.0 (q.1 ∙ c))) (λ ms o. rw (o, fields_in)) (λ ms o. rw (o, fields_in))

  unread_fit : (i : ℕ) (ks : List (Kind A)) → AllFit i (unread ks)
  unfolding unread
  unread_fit i [] = tt
  unread_fit i (k ∷ ks) = unread_fit (suc i) ks

  unread_count : (ks : List (Kind A)) → length (unread ks) ≡ length ks
  unfolding unread
  unread_count [] = refl
  unread_count (k ∷ ks) = ap suc (unread_count ks)

  pub fields_fit : {Q : Lexeme → Type 0} (ks : List (Kind A)) → AllGive Q 0 ks → GivesOn Q (Whole ks) (fields ks)
  unfolding fields
  fields_fit {Q} ks g = fields_in_fit Q (length ks) ks (unread ks) g (unread_fit 0 ks) (unread_count ks)

  -- the field of kind k, which must stand
  pub record Stands (i k : ℕ) (fs : List (Option A)) : Type 0 where
    pub value : A
    pub here : get_or fs k none ≡ some value
    pub fits : F (i + k) value

  next : (i k : ℕ) (f : Option A) (fs : List (Option A)) → Stands (suc i) k fs → Stands i (suc k) (f ∷ fs)
  next i k f fs s = let e : suc i + k ≡ i + suc k = omega arith in record { value = s.value; here = s.here; fits = rw e at s.fits }

  standing : (i : ℕ) (ks : List (Kind A)) (fs : List (Option A)) (k : ℕ) → AllFit i fs → complete ks fs ≡ true → get_or (needed_of ks) k false ≡ true → length fs ≡ length ks → Stands i k fs
  unfolding complete needed_of is_some
  standing i [] fs k h c n e = absurd (false≢true n)
  standing i (d ∷ ks) [] k h c n e = absurd (omega arith)
  standing i (d ∷ ks) (none ∷ fs) zero h c n e = absurd (false≢true (sym missing ∙ c))
    where
      missing : complete (d ∷ ks) (none ∷ fs) ≡ false
      missing = rw n
  standing i (d ∷ ks) (some a ∷ fs) zero h c n e = let z : i ≡ i + 0 = omega arith in record { value = a; here = refl; fits = rw z at h.0 }
  standing i (d ∷ ks) (none ∷ fs) (suc k) h c n e = next i k none fs (standing (suc i) ks fs k h (and_true (not d.needed || false) (complete ks fs) c).1 n (omega arith))
  standing i (d ∷ ks) (some a ∷ fs) (suc k) h c n e = next i k (some a) fs (standing (suc i) ks fs k h.1 (and_true (not d.needed || true) (complete ks fs) c).1 n (omega arith))

  pub fields_stand : (ks : List (Kind A)) (fs : List (Option A)) (k : ℕ) → Whole ks fs → get_or (needed_of ks) k false ≡ true → Stands 0 k fs
  fields_stand ks fs k w n = standing 0 ks fs k w.fit w.stand n w.count
