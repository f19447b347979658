use Rattle.std.proofs.Common.{rules, tests, ◌≡◌, ℕ, ◌+◌, ◌-◌, ◌/◌, ◌<◌, Option, fold, length, ◌*◌, ◌≤◌, arith}
use native.Mathlib.Nat.{div-le_of_le-mul}
use Rattle.std.proofs.Math.Nat.{mul-div_left}
use Rattle.std.proofs.lemmas.Iterator.{YieldsList-from_slice}
use Rattle.std.proofs.lemmas.Iterator.Adapters.{YieldsAtMost, at_most_from_yields_List, fits_from_length}
use Rattle.std.specs.Iterator.Runs.{WholeRun}
use Rattle.std.specs.Iterator.Adapters.{map_steps, map_source, map_callee}
use Rattle.std.specs.declared.iter.Map.{Map}
use Rattle.std.specs.Fn.{Mut, Called}
use Rattle.tile_host.proofs.rule.average.Goals as goal

-- a sum of n results, each of at most m, is at most m * n
sum_within : {S A F : Type 0} {steps : S → Option A → S → Type 0} {s : Map S F} {g : Mut F (A × Unit {0}) ℕ} {f : F} {sum n : ℕ} (m : ℕ) → WholeRun (map_steps steps g) s (λ p. sum ≡ fold (λ a x. a + x) 0 p.items) → YieldsAtMost steps (map_source s) n → map_callee s ≡ f → 0 < n → ((x : A) (r : ℕ) (q : F) → Called g f (x, tt) r q → (q ≡ f) × (r ≤ m)) → sum ≤ m * n
sum_within {g} {f} {n} m run few same some each =
    let less : m * n + 1 - 1 ≡ m * n = omega arith in
    let even : m * n / n ≡ m = mul-div_left m some in
    let bound = fits_from_length g f n (m * n + 1) few same (omega arith) (λ x r q k. rw (less, even) (each x r q k)) run.0 run.0.seen run.1 in
    rw run.3 (omega arith)

pub overflow_cast-result-2 : goal.overflow_cast-result-2
overflow_cast-result-2 c =
    let n = length c.args.values.now in
    let road = YieldsList-from_slice {s = c.map.result.iter} c.args.values.now cc in
    let low : c.sum-sum.result ≤ 65535 * n =
    sum_within 65535 (c.sum-sum.ensures.runs tt) (at_most_from_yields_List road (omega arith)) c.map.ensures.closure c.requires.some (λ x r q k. search (rules, tests)) in
    let even : c.sum-sum.result / n ≤ 65535 = div-le_of_le-mul n (omega arith) in
    search rules
