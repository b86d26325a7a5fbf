-- A list's two columns determine it. Assumes nothing.
use mathlib.Core.Path.{◌≡◌, refl}
use mathlib.Core.List.{List, [], ◌∷◌, nil≢cons, cons≢nil, head-eq_of_cons-eq, tail-eq_of_cons-eq}
use Rattle.day.specs.declared.Job.{Job}
use Rattle.day.proofs.Cases.{give}
use Rattle.rows.specs.Columns.{releases, deadlines}

same_job : (j k : Job) → j.release ≡ k.release → j.deadline ≡ k.deadline → j ≡ k
same_job j k r d = rw (r, d)

pub same_columns : (js ks : List Job) → releases js ≡ releases ks → deadlines js ≡ deadlines ks → js ≡ ks
same_columns [] [] r d = refl
same_columns [] (k ∷ ks) r d = absurd (nil≢cons r)
same_columns (j ∷ js) [] r d = absurd (cons≢nil r)
same_columns (j ∷ js) (k ∷ ks) r d =
    give (same_job j k (head-eq_of_cons-eq r) (head-eq_of_cons-eq d))
    (λ (a : j ≡ k).
    give (same_columns js ks (tail-eq_of_cons-eq r) (tail-eq_of_cons-eq d)) (λ (b : js ≡ ks). rw (a, b)))
