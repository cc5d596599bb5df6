-- The law of orders, for a test of the good states.
use Rattle.std.proofs.Common.{◌≡◌, ℕ, Bool, List, ◌++◌, sym, ◌∙◌, ap}
use Rattle.std.proofs.lemmas.Bool.{ltb-true}
use Rattle.std.specs.Prelude.{IsTrue}
use Rattle.std.specs.List.{range_with_len}
use Rattle.dml_order.specs.Order.{run_all, IsOrder, Picks, all_below, Commutes, taken_in_order, left_in_order}
use Rattle.dml_order.proofs.OrderLemmas.{picks_all, picks_then_left, run_all_append, filter_all}
use Rattle.dml_order.proofs.KeepsLemmas.{order_picks, order_whole, picks_front, picks_taken, left_is}

-- picks, and then what is left in list order
pub picks_then_rest : {S : Type 0} {Good : S → Type 0} {after : S → ℕ → S} {clash : ℕ → ℕ → Bool} {n : ℕ} → Commutes S Good after clash n → (order : List ℕ) → Picks clash (all_below n) order → (state : S) → Good state → run_all after state (order ++ left_in_order n order) ≡ run_all after state (range_with_len 0 n)
picks_then_rest {S} {Good} {after} {clash} {n} c order picks state good =
    run_all_append after state order (left_in_order n order)
    ∙ (ap (run_all after (run_all after state order)) (sym (left_is n order))
    ∙ (sym (picks_then_left c order (all_below n) (λ i here. ltb-true i n here) state good picks)
    ∙ ap (run_all after state) (filter_all n)))

pub any_order : {S : Type 0} (good : S → Bool) (after : S → ℕ → S) (clash : ℕ → ℕ → Bool) (n : ℕ) (order : List ℕ) → Commutes S (λ state. IsTrue (good state)) after clash n → IsOrder clash n order → (state : S) → IsTrue (good state) → run_all after state order ≡ run_all after state (range_with_len 0 n)
any_order good after clash n order commutes is state start =
    picks_all commutes order (order_picks clash n order is) (order_whole clash n order is) state start

pub front_then_left : {S : Type 0} (good : S → Bool) (after : S → ℕ → S) (clash : ℕ → ℕ → Bool) (n : ℕ) (front behind : List ℕ) → Commutes S (λ state. IsTrue (good state)) after clash n → IsOrder clash n (front ++ behind) → (state : S) → IsTrue (good state) → run_all after state (front ++ left_in_order n front) ≡ run_all after state (range_with_len 0 n)
front_then_left good after clash n front behind commutes is state start =
    picks_then_rest commutes front (picks_front clash front behind (all_below n) (order_picks clash n (front ++ behind) is)) state start

pub front_alone : {S : Type 0} (good : S → Bool) (after : S → ℕ → S) (clash : ℕ → ℕ → Bool) (n : ℕ) (front behind : List ℕ) → Commutes S (λ state. IsTrue (good state)) after clash n → IsOrder clash n (front ++ behind) → (state : S) → IsTrue (good state) → run_all after state front ≡ run_all after state (taken_in_order n front)
front_alone good after clash n front behind commutes is state start =
    picks_taken commutes front (picks_front clash front behind (all_below n) (order_picks clash n (front ++ behind) is)) state start
