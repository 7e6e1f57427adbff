-- A fact from a decision, by what each answer tells.

pub dec-both : {A B : Type 0} → Dec A → (A → B) → (¬ A → B) → B
dec-both (yes a) f g = f a
dec-both (no a) f g = g a
