-- What does not look at a part of its values is equal where they are equal without that part.
use mathlib.Core.Path.{◌≡◌, sym, ap, ◌∙◌}

pub through : {A B : Type 0} (less : A → A) (F : A → B) → ((a : A) → F (less a) ≡ F a) → (a b : A) → less b ≡ less a → F b ≡ F a
through less F h a b e = sym (h b) ∙ ap F e ∙ h a
