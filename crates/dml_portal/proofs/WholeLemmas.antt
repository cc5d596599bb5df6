-- Logs from whose front entries were taken off, when lanes change.
use Rattle.std.proofs.Common.{◌≡◌, ℕ, ◌<◌, ◌⊎◌, List, [], ◌∷◌, ◌++◌, filter, length, get_or, set, map, take, drop, sym, ◌∙◌, ap, subst, arith, append_assoc}
use Rattle.std.proofs.lemmas.List.{append-nil, get_or_default, map-append, take_all}
use Rattle.std.proofs.Math.ListN as lists
use Rattle.std.specs.Prelude.{nat_eq}
use Rattle.rtrb.specs.Ring.{known_free, received, sent}
use Rattle.dml_portal.specs.Types.{Job, LogEntry, Record}
use Rattle.dml_portal.specs.Log.{added, answers_in, jobs_in, part_of, sent_for}
use Rattle.dml_portal.specs.Lanes.{IsSeatOf}
use Rattle.dml_portal.specs.Blocks.{AreBlocks}
use Rattle.dml_portal.specs.Whole.{AreWhole, HasPushed, HasSentMore, HaveAnswered, HaveGrown, HavePushed, HaveReceived, HaveSentMore, StayWhole, kept_by, late_of}
use Rattle.dml_portal.specs.Parts.{ArePartly}
use Rattle.dml_portal.specs.Seats.{polled}
use Rattle.dml_portal.specs.Settled.{AreUnusedLanes, IsDrained, IsSettled}
use Rattle.dml_portal.specs.Blank.{blank}
use Rattle.dml_portal.specs.declared.lanes.Lane.{Lane}
use Rattle.dml_portal.specs.declared.seats.Done.{Done}
use Rattle.dml_portal.proofs.Lists.{each_set}
use Rattle.dml_portal.proofs.LogLemmas.{jobs_append, jobs_mine, jobs_part, jobs_theirs, part_append}
use Rattle.dml_portal.proofs.BlockLemmas.{block_answers}
use Rattle.dml_portal.proofs.ServedLemmas.{added_is, whole_is}
use Rattle.dml_portal.proofs.LookLemmas.{each_more, popped_unused}

-- lists that have the same, place by place
pub same_at : {X Y : Type 0} (f : X → Y) (xs ys : List X) (k : ℕ) (d e : X) → map f xs ≡ map f ys → k < length ys → f (get_or xs k d) ≡ f (get_or ys k e)
same_at f xs ys k d e same below =
    sym (lists.get_or-map f xs k d)
    ∙ (ap (λ all. get_or all k (f d)) same
    ∙ (lists.get_or-map f ys k d ∙ ap f (get_or_default ys k d e below)))

-- a fact of each lane, when one of them changes
pub lanes_more : (P : Lane → Type 0) (lanes : List Lane) (i : ℕ) (now : Lane) → i < length lanes → P now → ((client : ℕ) (lane : Lane) → client < length lanes → P (get_or lanes client lane)) → (client : ℕ) (lane : Lane) → client < length (set lanes i now) → P (get_or (set lanes i now) client lane)
lanes_more P lanes i now within held before =
    each_set (λ _ l. P l) lanes i now within held (λ other d below differs. before other d below)

-- jobs of one client are received and logged
pub received_more : (start lanes : List Lane) (i : ℕ) (lane now : Lane) (entries : List LogEntry) (jobs : List Job) → i < length lanes → length lanes ≡ length start → lane ≡ get_or lanes i lane → received now.jobs ≡ received lane.jobs ++ jobs → HaveReceived start entries lanes → HaveReceived start (entries ++ map (blank i) jobs) (set lanes i now)
received_more start lanes i lane now entries jobs within long is popped before =
    each_set (λ client l. received l.jobs ≡ received (get_or start client l).jobs ++ jobs_in (part_of client (entries ++ map (blank i) jobs))) lanes i now within
    (let old : received lane.jobs ≡ received (get_or start i lane).jobs ++ jobs_in (part_of i entries) =
    subst (λ l. received l.jobs ≡ received (get_or start i l).jobs ++ jobs_in (part_of i entries)) (sym is) (before i lane within) in
    popped
    ∙ (ap (λ xs. xs ++ jobs) old
    ∙ (append_assoc (received (get_or start i lane).jobs) (jobs_in (part_of i entries)) jobs
    ∙ (ap (λ xs. received (get_or start i lane).jobs ++ xs) (sym (jobs_mine i entries jobs))
    ∙ ap (λ l. received l.jobs ++ jobs_in (part_of i (entries ++ map (blank i) jobs))) (get_or_default start i lane now (omega (arith, within, long)))))))
    (λ other d below differs.
    before other d below
    ∙ ap (λ xs. received (get_or start other (get_or lanes other d)).jobs ++ xs) (sym (jobs_theirs i other entries jobs (λ e. differs (sym e)))))

module _ {X : Type 0} (f : Lane → List X) where
  -- by nothing
  pub grown_none : (more : ℕ → List X) (lanes now : List Lane) → ((client : ℕ) → more client ≡ []) → length now ≡ length lanes → map f now ≡ map f lanes → HaveGrown f more lanes now
  grown_none more lanes now none long same client lane below =
      let l : Lane = get_or now client lane in
      sym (lists.get_or-map f now client lane)
      ∙ (ap (λ xs. get_or xs client (f lane)) same
      ∙ (lists.get_or-map f lanes client lane
      ∙ (ap f (get_or_default lanes client lane l (omega (arith, below, long)))
      ∙ (sym (append-nil (f (get_or lanes client l)))
      ∙ ap (λ xs. f (get_or lanes client l) ++ xs) (sym (none client))))))

  -- what was before is as it was, and so is what came behind
  pub grown_between : (more more2 : ℕ → List X) (lanes start now after : List Lane) → ((client : ℕ) → more client ≡ more2 client) → length start ≡ length lanes → length now ≡ length start → length after ≡ length now → map f start ≡ map f lanes → map f after ≡ map f now → HaveGrown f more start now → HaveGrown f more2 lanes after
  grown_between more more2 lanes start now after same long long_now long_after first last grown client lane below =
      let l : Lane = get_or after client lane in
      let m : Lane = get_or now client lane in
      let inside : client < length now = omega (arith, below, long_after) in
      let there : client < length start = omega (arith, inside, long_now) in
      let end : f l ≡ f m =
      sym (lists.get_or-map f after client lane)
      ∙ (ap (λ xs. get_or xs client (f lane)) last ∙ lists.get_or-map f now client lane) in
      let begin : f (get_or start client l) ≡ f (get_or lanes client l) =
      sym (lists.get_or-map f start client l)
      ∙ (ap (λ xs. get_or xs client (f l)) first ∙ lists.get_or-map f lanes client l) in
      end
      ∙ (grown client lane inside
      ∙ (ap (λ x. f x ++ more client) (get_or_default start client m l there)
      ∙ (ap (λ xs. xs ++ more client) begin
      ∙ ap (λ xs. f (get_or lanes client l) ++ xs) (same client))))

-- the jobs of entries that were sent as others
pub same_jobs : (entries added : List LogEntry) → map sent_for added ≡ map sent_for entries → (client : ℕ) → jobs_in (part_of client entries) ≡ jobs_in (part_of client added)
same_jobs entries added same client =
    jobs_part client entries
    ∙ (ap (λ list. map (λ sent. sent.job) (filter (λ sent. nat_eq sent.client client) list)) (sym same) ∙ sym (jobs_part client added))

-- what was whole goes on
pub grown_whole : (lanes now : List Lane) (log later : List LogEntry) → take (length log) later ≡ log → length now ≡ length lanes → HaveReceived lanes (added log later) now → HaveAnswered lanes (added log later) now → StayWhole lanes log now later
grown_whole lanes now log later front long got given earlier whole =
    record {
      popped = λ client lane below.
          let l : Lane = get_or now client lane in
          let inside : client < length lanes = omega (arith, below, long) in
          got client lane below
          ∙ (ap (λ xs. xs ++ jobs_in (part_of client (added log later))) (whole.popped client l inside)
          ∙ (sym (jobs_append (part_of client (earlier ++ log)) (part_of client (added log later)))
          ∙ ap jobs_in (parts client)));
      kept = λ client lane below.
          let l : Lane = get_or now client lane in
          let inside : client < length lanes = omega (arith, below, long) in
          given client lane below
          ∙ (ap (λ xs. xs ++ answers_in (part_of client (added log later))) (whole.kept client l inside)
          ∙ (sym (map-append (λ (e : LogEntry). e.answer) (part_of client (earlier ++ log)) (part_of client (added log later)))
          ∙ ap answers_in (parts client)));
    }
  where
    parts : (client : ℕ) → part_of client (earlier ++ log) ++ part_of client (added log later) ≡ part_of client (earlier ++ later)
    parts client =
        sym (part_append client (earlier ++ log) (added log later))
        ∙ ap (part_of client) (append_assoc earlier log (added log later) ∙ ap (λ xs. earlier ++ xs) (sym (whole_is log later front)))

-- a look at the rings
pub unused_whole : (lanes now : List Lane) (whole : List LogEntry) → AreUnusedLanes lanes now → map late_of now ≡ map late_of lanes → AreWhole lanes whole → AreWhole now whole
unused_whole lanes now log unused late whole =
    record {
      popped = popped_unused lanes now log unused whole.popped;
      kept = λ client lane below.
          let l : Lane = get_or now client lane in
          let inside : client < length lanes = omega (arith, below, unused.0) in
          let same = unused.1 client lane below in
          ap (λ xs. xs ++ late_of l) same.2
          ∙ (ap (λ xs. sent (get_or lanes client l).records ++ xs) (same_at late_of now lanes client lane l late inside)
          ∙ whole.kept client l inside);
    }

settled_one : (lanes : List Lane) (log : List LogEntry) (done : Done) (lane : Lane) → IsSeatOf lanes done.seat → AreWhole lanes log → IsDrained lanes done → IsSettled log done
settled_one lanes log done lane seat whole drained =
    let client : ℕ = done.seat.client in
    let mine : Lane = get_or lanes client lane in
    let front = (drained lane).1 in
    record {
      jobs = sym (whole.popped client lane seat.0) ∙ (drained lane).0;
      records = (front.0 ++ late_of mine, sym (append_assoc (polled done.seat) front.0 (late_of mine)) ∙ (ap (λ xs. xs ++ late_of mine) front.1 ∙ whole.kept client lane seat.0));
    }

-- all that a seat submitted was popped, and what it polled is a front of what was pushed
pub settled_behind : (lanes now : List Lane) (whole : List LogEntry) (done : Done) → AreUnusedLanes lanes now → map late_of now ≡ map late_of lanes → AreWhole lanes whole → IsSeatOf now done.seat → IsDrained now done → IsSettled whole done
settled_behind lanes [] log done unused late whole seat drained = absurd (omega (arith, seat.0))
settled_behind lanes (lane ∷ now) log done unused late whole seat drained =
    settled_one (lane ∷ now) log done lane seat (unused_whole lanes (lane ∷ now) log unused late whole) drained

pub still_whole : (lanes : List Lane) (log : List LogEntry) → StayWhole lanes log lanes log
still_whole lanes log earlier whole = whole

-- all is taken off
pub taken_whole : (lanes : List Lane) (log left : List LogEntry) → left ≡ [] → (earlier : List LogEntry) → AreWhole lanes (earlier ++ log) → AreWhole lanes ((earlier ++ log) ++ left)
taken_whole lanes log left is earlier whole =
    subst (AreWhole lanes) (sym (ap (λ xs. (earlier ++ log) ++ xs) is ∙ append-nil (earlier ++ log))) whole

pub none_added : (log later : List LogEntry) → later ≡ log → added log later ≡ []
none_added log later is = added_is log later [] (is ∙ sym (append-nil log))

pub front_same : (log later : List LogEntry) → later ≡ log → take (length log) later ≡ log
front_same log later is = ap (take (length log)) is ∙ take_all (length log) log (omega arith)

-- records are pushed, and never taken back
pub sent_again : (lanes : List Lane) → HaveSentMore lanes lanes
sent_again lanes client lane below =
    omega (arith, ap (λ (l : Lane). length (sent l.records)) (get_or_default lanes client lane (get_or lanes client lane) below))

pub sent_set : (start lanes : List Lane) (i : ℕ) (lane now : Lane) → i < length lanes → length lanes ≡ length start → lane ≡ get_or lanes i lane → HasSentMore lane now → HaveSentMore start lanes → HaveSentMore start (set lanes i now)
sent_set start lanes i lane now within long is more before =
    each_more HasSentMore start lanes i lane now (λ a b c first next. omega (arith, first, next)) within long is more before

pub sent_along : (lanes start now : List Lane) → length now ≡ length start → length start ≡ length lanes → HaveSentMore lanes start → HaveSentMore start now → HaveSentMore lanes now
sent_along lanes start now long_now long first next client lane below =
    let l : Lane = get_or now client lane in
    let m : Lane = get_or start client l in
    let inside : client < length start = omega (arith, below, long_now) in
    let there : client < length lanes = omega (arith, inside, long) in
    let a : HasSentMore (get_or lanes client m) m = first client l inside in
    let b : HasSentMore m l = next client lane below in
    let same = ap (λ (o : Lane). length (sent o.records)) (get_or_default lanes client m l there) in
    omega (arith, a, b, same)

-- what was pushed as far as there was room is so where the lanes have the same
pub pushed_again : (lanes : List Lane) (i : ℕ) (lane now : Lane) → i < length lanes → lane ≡ get_or lanes i lane → now.records ≡ lane.records → late_of now ≡ late_of lane → HavePushed lanes → HavePushed (set lanes i now)
pushed_again lanes i lane now within is records late before =
    lanes_more HasPushed lanes i now within
    (let old : HasPushed lane = subst HasPushed (sym is) (before i lane within) in
    subst (λ r. (late_of now ≡ []) ⊎ (known_free r ≡ 0)) (sym records) (subst (λ xs. (xs ≡ []) ⊎ (known_free lane.records ≡ 0)) (sym late) old))
    before

-- each client's block of a round's records is its part of the round's entries
pub blocks_answered : (lanes now : List Lane) (log : List LogEntry) (start : ℕ) (records : List Record) → length now ≡ length lanes → answers_in (drop start log) ≡ records → AreBlocks lanes (drop start log) → ArePartly records lanes now → HaveAnswered lanes (drop start log) now
blocks_answered lanes now log start records long answers blocks have client lane below =
    let l : Lane = get_or now client lane in
    let old : Lane = get_or lanes client l in
    (have client lane below).kept
    ∙ ap (λ xs. kept_by old ++ xs) (sym (block_answers log client old start records answers (blocks client l (omega (arith, below, long)))))
