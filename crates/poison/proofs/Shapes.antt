-- Entries and their lines: each change of entries is the same change of runs. Assumes nothing.
use mathlib.Core.Path.{◌≡◌, refl, sym, ap, ap₂, ◌∙◌}
use mathlib.Core.Bool.{Bool, true, false, cond}
use mathlib.Core.List.{List, [], ◌∷◌, ◌++◌, map}
use Prim.Native.Nat.{ℕ, suc}
use lib.Dec.{ltb}
use lib.ListN.{length, length-map}
use Rattle.poison.specs.State.{Entry, shape, entry, shapes, insert_entry, insert_entries}
use Rattle.poison.specs.Runs.{Run, in_run, insert, insert_all, before, after, cut}
use Rattle.poison.specs.Clear.{cut_entries}
use Rattle.poison.proofs.RunLaws.{length_insert}

pub shapes_entry : (q : ℕ) (rs : List Run) → shapes (map (entry q) rs) ≡ rs
shapes_entry q [] = refl
shapes_entry q (r ∷ rs) = ap (λ (l : List Run). r ∷ l) (shapes_entry q rs)

pub shapes_append : (xs ys : List Entry) → shapes (xs ++ ys) ≡ shapes xs ++ shapes ys
shapes_append [] ys = refl
shapes_append (x ∷ xs) ys = ap (λ (l : List Run). shape x ∷ l) (shapes_append xs ys)

pub shapes_insert : (e : Entry) (es : List Entry) → shapes (insert_entry e es) ≡ insert (shape e) (shapes es)
shapes_insert e [] = refl
shapes_insert e (x ∷ xs) = go (ltb e.start x.start) (shapes_insert e xs)
  where
    go : (b : Bool) → shapes (insert_entry e xs) ≡ insert (shape e) (shapes xs) → shapes (cond b (e ∷ x ∷ xs) (x ∷ insert_entry e xs)) ≡ cond b (shape e ∷ shape x ∷ shapes xs) (shape x ∷ insert (shape e) (shapes xs))
    go true i = refl
    go false i = ap (λ (l : List Run). shape x ∷ l) i

pub length_insert_entry : (e : Entry) (es : List Entry) → length (insert_entry e es) ≡ suc (length es)
length_insert_entry e es = sym (length-map (insert_entry e es) shape) ∙ ap length (shapes_insert e es) ∙ length_insert (shape e) (shapes es) ∙ ap suc (length-map es shape)

pub shapes_insert_all : (es xs : List Entry) → shapes (insert_entries es xs) ≡ insert_all (shapes es) (shapes xs)
shapes_insert_all [] xs = refl
shapes_insert_all (e ∷ es) xs = shapes_insert_all es (insert_entry e xs) ∙ ap (insert_all (shapes es)) (shapes_insert e xs)

pub shapes_cut : (keep : Bool) (k : ℕ) (es : List Entry) → shapes (cut_entries keep k es) ≡ cut keep k (shapes es)
shapes_cut keep k [] = refl
shapes_cut keep k (e ∷ es) = go (in_run (shape e) k) keep (shapes_cut keep k es)
  where
    F : List Entry
    F = map (entry e.kind) (before k (shape e))

    B : List Entry
    B = map (entry e.kind) (after k (shape e))

    kept : (b : Bool) → shapes (cond b B [] ++ es) ≡ cond b (after k (shape e)) [] ++ shapes es
    kept true = shapes_append B es ∙ rw (shapes_entry e.kind (after k (shape e)))
    kept false = refl

    go : (b c : Bool) → shapes (cut_entries keep k es) ≡ cut keep k (shapes es) → shapes (cond b (F ++ (cond keep B [] ++ es)) (e ∷ cut_entries keep k es)) ≡ cond b (before k (shape e) ++ (cond keep (after k (shape e)) [] ++ shapes es)) (shape e ∷ cut keep k (shapes es))
    go true c i = shapes_append F (cond keep B [] ++ es) ∙ ap₂ ◌++◌ (shapes_entry e.kind (before k (shape e))) (kept keep)
    go false c i = ap (λ (l : List Run). shape e ∷ l) i
