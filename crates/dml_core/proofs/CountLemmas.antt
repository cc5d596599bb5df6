-- How many jobs were fetched of each client.
use Rattle.std.proofs.Common.{◌≡◌, ℕ, ◌+◌, ◌-◌, ◌<◌, ◌≤◌, zero, suc, true, false, cond, List, [], ◌∷◌, ◌++◌, Result, Ok, Err, length, get_or, set, filter, map, replicate, refl, sym, ◌∙◌, ap, subst, arith, ⊎_elim}
use Rattle.std.proofs.lemmas.Bool.{cases_eq, cases_lt, eq-eqb, ne_eqb}
use Rattle.std.proofs.lemmas.List.{length-replicate, length-set, get_or_past, get_or_read, get_or-replicate, get_or-set_same, get_or-set_other, map-set}
use Rattle.std.proofs.lemmas.List.Elements.{filter-append}
use Rattle.std.proofs.Math.ListN.{get_or-map}
use Rattle.std.proofs.Math.Seq.{map-set_same}
use Rattle.std.specs.Prelude.{OnErr, OnOk, nat_eq}
use Rattle.dml_types.specs.Memory.{Memory}
use Rattle.dml_order.specs.Order.{run_all}
use Rattle.dml_core.specs.Types.{Job, Fetched}
use Rattle.dml_core.specs.World.{Progress, carry_out, part_of, progress}
use Rattle.dml_core.specs.Gather.{AreParts, Counted, counted, counts_of, jobs_sent}
use Rattle.dml_core.proofs.FoldLemmas.{fields_stay}
use Rattle.dml_core.proofs.StepFacts.{one_more}

part_more : (client : ℕ) (fetched : List Fetched) (entry : Fetched) → length (part_of client (fetched ++ entry ∷ [])) ≡ length (part_of client fetched) + cond (nat_eq entry.client client) 1 0
part_more client fetched entry =
    ap length (filter-append (λ (e : Fetched). nat_eq e.client client) fetched (entry ∷ []))
    ∙ one_more (part_of client fetched) (nat_eq entry.client client) entry

few_part : (client : ℕ) (fetched : List Fetched) → length (part_of client fetched) ≤ length fetched
few_part client [] = omega arith
few_part client (entry ∷ fetched) =
    elim (nat_eq entry.client client) as (λ b. length (cond b (entry ∷ part_of client fetched) (part_of client fetched)) ≤ suc (length fetched)) [
      | true ↦ (let rest = few_part client fetched in omega (arith, rest))
      | false ↦ (let rest = few_part client fetched in omega (arith, rest))
    ]

-- before the first fetch
none_sent : (clients : ℕ) → jobs_sent (replicate clients (counted [] 0)) ≡ replicate clients []
none_sent zero = refl
none_sent (suc n) = ap (λ (rest : List (List Job)). [] ∷ rest) (none_sent n)

none_counted : (clients : ℕ) → counts_of (replicate clients (counted [] 0)) ≡ replicate clients 0
none_counted zero = refl
none_counted (suc n) = ap (λ (rest : List ℕ). 0 ∷ rest) (none_counted n)

none_parts : (clients : ℕ) → AreParts (replicate clients 0) []
none_parts clients =
    let size = length-replicate {A = ℕ} clients 0 in
    record { each = λ client below. get_or-replicate clients client 0 0 (omega (arith, size, below)) }

pub none_fetched : (clients : ℕ) (sent : List Counted) (fetched : List Fetched) → sent ≡ replicate clients (counted [] 0) → fetched ≡ [] → AreParts (counts_of sent) fetched
none_fetched clients sent fetched is none =
    subst (λ (l : List Fetched). AreParts (counts_of sent) l) (sym none)
    (subst (λ (l : List ℕ). AreParts l []) (sym (ap counts_of is ∙ none_counted clients)) (none_parts clients))

pub none_sent_by : (clients : ℕ) (sent : List Counted) → sent ≡ replicate clients (counted [] 0) → jobs_sent sent ≡ replicate clients []
none_sent_by clients sent is = ap jobs_sent is ∙ none_sent clients

-- another list of a client: its jobs or its count stay, or are turned into others
pub jobs_kept : (sent : List Counted) (client : ℕ) (own new : Counted) → own ≡ get_or sent client own → new.jobs ≡ own.jobs → jobs_sent (set sent client new) ≡ jobs_sent sent
jobs_kept sent client own new at same = map-set_same (λ (c : Counted). c.jobs) sent client new own (same ∙ ap (λ (c : Counted). c.jobs) at)

pub counts_kept : (sent : List Counted) (client : ℕ) (own new : Counted) → own ≡ get_or sent client own → new.count ≡ own.count → counts_of (set sent client new) ≡ counts_of sent
counts_kept sent client own new at same = map-set_same (λ (c : Counted). c.count) sent client new own (same ∙ ap (λ (c : Counted). c.count) at)

pub counts_either : {E : Type 0} (pushed : Result (Unit {0}) E) (sent : List Counted) (client : ℕ) (own new : Counted) (job : Job) → own ≡ get_or sent client own → OnOk pushed (new ≡ counted (own.jobs ++ job ∷ []) own.count) → OnErr pushed (new ≡ own) → counts_of (set sent client new) ≡ counts_of sent
counts_either (Ok done) sent client own new job at more same = counts_kept sent client own new at (ap (λ (c : Counted). c.count) more)
counts_either (Err error) sent client own new job at more same = counts_kept sent client own new at (ap (λ (c : Counted). c.count) same)

pub jobs_turned : (f : List Job → List Job) (sent : List Counted) (client : ℕ) (own new : Counted) → client < length sent → own ≡ get_or sent client own → new.jobs ≡ f own.jobs → jobs_sent (set sent client new) ≡ set (jobs_sent sent) client (f (get_or (jobs_sent sent) client []))
jobs_turned f sent client own new below at is =
    let none = counted [] 0 in
    let here : own ≡ get_or sent client none = get_or_read sent client own below at none in
    map-set (λ (c : Counted). c.jobs) sent client new
    ∙ ap (set (jobs_sent sent) client) (is ∙ ap f (ap (λ (c : Counted). c.jobs) here ∙ sym (get_or-map (λ (c : Counted). c.jobs) sent client none)))

pub counts_turned : (f : ℕ → ℕ) (sent : List Counted) (client : ℕ) (own new : Counted) → client < length sent → own ≡ get_or sent client own → new.count ≡ f own.count → counts_of (set sent client new) ≡ set (counts_of sent) client (f (get_or (counts_of sent) client 0))
counts_turned f sent client own new below at is =
    let none = counted [] 0 in
    let here : own ≡ get_or sent client none = get_or_read sent client own below at none in
    map-set (λ (c : Counted). c.count) sent client new
    ∙ ap (set (counts_of sent) client) (is ∙ ap f (ap (λ (c : Counted). c.count) here ∙ sym (get_or-map (λ (c : Counted). c.count) sent client none)))

-- one entry more, and one more counted of its client
pub parts_more : (parts next : List ℕ) (fetched new : List Fetched) (entry : Fetched) → AreParts parts fetched → next ≡ set parts entry.client (get_or parts entry.client 0 + 1) → new ≡ fetched ++ entry ∷ [] → AreParts next new
parts_more parts next fetched new entry before is more =
    let size : length next ≡ length parts = ap length is ∙ length-set parts entry.client (get_or parts entry.client 0 + 1) in
    record {
      each = λ client below.
          let inside : client < length parts = omega (arith, below, size) in
          let old = before.each client inside in
          let whole : length (part_of client new) ≡ length (part_of client fetched) + cond (nat_eq entry.client client) 1 0 =
          ap (λ (l : List Fetched). length (part_of client l)) more ∙ part_more client fetched entry in
          ⊎_elim (λ same.
          let one : ◌≡◌ {A = ℕ} (cond (nat_eq entry.client client) 1 0) 1 = ap (λ b. cond b 1 0) (eq-eqb entry.client client same) in
          let here : get_or next client 0 ≡ get_or parts client 0 + 1 =
          ap (λ (l : List ℕ). get_or l client 0) (is ∙ ap (λ (k : ℕ). set parts k (get_or parts k 0 + 1)) same)
          ∙ get_or-set_same parts client (get_or parts client 0 + 1) 0 inside in
          let e : get_or next client 0 ≡ length (part_of client new) = omega (arith, here, whole, one, old) in e)
          (λ other.
          let none : ◌≡◌ {A = ℕ} (cond (nat_eq entry.client client) 1 0) 0 = ap (λ b. cond b 1 0) (ne_eqb entry.client client other) in
          let kept : get_or next client 0 ≡ get_or parts client 0 =
          ap (λ (l : List ℕ). get_or l client 0) is
          ∙ get_or-set_other parts entry.client client (get_or parts entry.client 0 + 1) 0 (λ same. other (sym same)) in
          let e : get_or next client 0 ≡ length (part_of client new) = omega (arith, kept, whole, none, old) in e)
          (cases_eq entry.client client);
    }

-- the last entry taken back, and one less counted of its client
pub parts_less : (parts next : List ℕ) (fetched new : List Fetched) (entry : Fetched) → AreParts parts fetched → next ≡ set parts entry.client (get_or parts entry.client 0 - 1) → fetched ≡ new ++ entry ∷ [] → AreParts next new
parts_less parts next fetched new entry before is less =
    let size : length next ≡ length parts = ap length is ∙ length-set parts entry.client (get_or parts entry.client 0 - 1) in
    record {
      each = λ client below.
          let inside : client < length parts = omega (arith, below, size) in
          let old = before.each client inside in
          let whole : length (part_of client fetched) ≡ length (part_of client new) + cond (nat_eq entry.client client) 1 0 =
          ap (λ (l : List Fetched). length (part_of client l)) less ∙ part_more client new entry in
          ⊎_elim (λ same.
          let one : ◌≡◌ {A = ℕ} (cond (nat_eq entry.client client) 1 0) 1 = ap (λ b. cond b 1 0) (eq-eqb entry.client client same) in
          let here : get_or next client 0 ≡ get_or parts client 0 - 1 =
          ap (λ (l : List ℕ). get_or l client 0) (is ∙ ap (λ (k : ℕ). set parts k (get_or parts k 0 - 1)) same)
          ∙ get_or-set_same parts client (get_or parts client 0 - 1) 0 inside in
          let e : get_or next client 0 ≡ length (part_of client new) = omega (arith, here, whole, one, old) in e)
          (λ other.
          let none : ◌≡◌ {A = ℕ} (cond (nat_eq entry.client client) 1 0) 0 = ap (λ b. cond b 1 0) (ne_eqb entry.client client other) in
          let kept : get_or next client 0 ≡ get_or parts client 0 =
          ap (λ (l : List ℕ). get_or l client 0) is
          ∙ get_or-set_other parts entry.client client (get_or parts entry.client 0 - 1) 0 (λ same. other (sym same)) in
          let e : get_or next client 0 ≡ length (part_of client new) = omega (arith, kept, whole, none, old) in e)
          (cases_eq entry.client client);
    }

pub part_small : (parts : List ℕ) (fetched : List Fetched) (client : ℕ) → AreParts parts fetched → length fetched < 18446744073709551615 → get_or parts client 0 < 18446744073709551615
part_small parts fetched client before few =
    ⊎_elim (λ (below : client < length parts).
    let own = before.each client below in
    let most = few_part client fetched in
    let e : get_or parts client 0 < 18446744073709551615 = omega (arith, own, most, few) in e)
    (λ (past : length parts ≤ client).
    let none = get_or_past parts client 0 past in
    let e : get_or parts client 0 < 18446744073709551615 = omega (arith, none) in e)
    (cases_lt client (length parts))

-- the same counts, and as many fetched jobs of each
pub parts_same : (parts same : List ℕ) (fetched new : List Fetched) → AreParts parts fetched → same ≡ parts → new ≡ fetched → AreParts same new
parts_same parts same fetched new before is kept =
    subst (λ (l : List ℕ). AreParts l new) (sym is) (subst (AreParts parts) (sym kept) before)

-- jobs carried out
part_clients : (client : ℕ) (fetched : List Fetched) → length (part_of client fetched) ≡ length (filter (λ k. nat_eq k client) (map (λ (e : Fetched). e.client) fetched))
part_clients client [] = refl
part_clients client (entry ∷ fetched) =
    let rest = filter (λ k. nat_eq k client) (map (λ (e : Fetched). e.client) fetched) in
    elim (nat_eq entry.client client) as (λ b. length (cond b (entry ∷ part_of client fetched) (part_of client fetched)) ≡ length (cond b (entry.client ∷ rest) rest)) [
      | true ↦ ap suc (part_clients client fetched)
      | false ↦ part_clients client fetched
    ]

pub parts_after : (parts : List ℕ) (staging : ℕ) (wave : List ℕ) (image new_image : Memory) (fetched new_fetched : List Fetched) → progress new_image new_fetched ≡ run_all (carry_out staging) (progress image fetched) wave → AreParts parts fetched → AreParts parts new_fetched
parts_after parts staging wave image new_image fetched new_fetched is before =
    let same : map (λ (e : Fetched). e.client) new_fetched ≡ map (λ (e : Fetched). e.client) fetched =
    ap (λ (p : Progress). map (λ (e : Fetched). e.client) p.fetched) is
    ∙ fields_stay (λ (e : Fetched). e.client) (λ entry answer. refl) staging wave (progress image fetched) in
    record {
      each = λ client below.
          before.each client below
          ∙ (part_clients client fetched
          ∙ (ap (λ (l : List ℕ). length (filter (λ k. nat_eq k client) l)) (sym same)
          ∙ sym (part_clients client new_fetched)));
    }
