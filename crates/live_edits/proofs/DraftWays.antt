-- Edits of a draft leave the ways between blocks, so that a table whose order is that of the draft is ordered.
use Rattle.std.proofs.Common.{◌≡◌, ◌∷◌, ◌∙◌, ◌<◌, ℕ, zero, suc, Bool, true, false, cond, length, List, [], Option, Some, refl, sym, ap, subst, map, eq-eqb}
use Rattle.std.specs.Prelude.{filter, nat_eq, option_map}
use Rattle.target_base.specs.declared.types.OpId.{OpId}
use Rattle.target_base.specs.declared.types.Target.{Target}
use Rattle.mir_func.specs.declared.func.Block.{Block}
use Rattle.mir_func.specs.declared.func.Gap.{Gap}
use Rattle.mir_func.specs.declared.func.Instr.{Instr}
use Rattle.mir_func.specs.declared.func.Operand.{Operand}
use Rattle.mir_func.specs.Value.{Function}
use Rattle.mir_func.specs.Edits.{block_place, deleted, inserted, made}
use Rattle.mir_func.specs.Binding.{does, is_terminator}
use Rattle.mir_meaning.specs.Paths.{has}
use Rattle.live_lanes.specs.declared.compute.flow.BlockFlow.{BlockFlow}
use Rattle.live_lanes.specs.declared.table.Table.{Table}
use Rattle.live_lanes.specs.Flowing.{AreWays, edge_places, exits_at, terminator_ids, terminators_at}
use Rattle.live_lanes.specs.Ordered.{place_of}
use Rattle.edit_laws.specs.Deferred.{all_deleted}
use Rattle.edit_laws.specs.Edits.{Put, Replace, Erase, replaced, with_op, KeepsWays}
use Rattle.edit_laws.specs.Ordering.{IsOrdered}
use Rattle.edit_laws.proofs.Aligned.{AreInstrs, no_instrs, instr_stays, instr_changes, instr_goes, instr_comes, AreBlocks, no_blocks, block_stays}
use Rattle.edit_laws.proofs.Edited.{Never, NeverBoth}
use Rattle.edit_laws.proofs.Placed.{BothAt, ComesInto, GoesFrom, blocks-placed, put-blocks, Named, erase-blocks, Becomes, change-blocks}
use Rattle.live_edits.specs.Drafts.{IsOrderOf}

-- the ways between the blocks of a function
abbrev pub HasWays : Target → Function → List BlockFlow → Type 0
HasWays t f flow = AreWays t (λ n. place_of n f.blocks) f.blocks flow

-- a table is ordered where its order and its ways are the function's
pub ordered : (t : Target) (f : Function) (x : Table) → IsOrderOf f x.order → HasWays t f x.flow.items → IsOrdered t f x
ordered t f x order ways = record { positions = order.positions; homes = order.homes; ways = ways; layout = order.layout; numbered = order.numbered }

pub order-of : (t : Target) (f : Function) (x : Table) → IsOrdered t f x → IsOrderOf f x.order
order-of t f x o = record { positions = o.positions; homes = o.homes; layout = o.layout; numbered = o.numbered }

-- blocks of which instructions come, go or change, where terminators stay

abbrev lead : Bool → ℕ → List ℕ → List ℕ
lead u x xs = cond u (x ∷ xs) xs

terminator-step : (t : Target) (i : Instr) (is : List Instr) → terminator_ids t (i ∷ is) ≡ lead (does is_terminator t i) i.id (terminator_ids t is)
terminator-step t i is = go (does is_terminator t i)
  where
    go : (u : Bool) → map (λ (j : Instr). j.id) (cond u (i ∷ filter (does is_terminator t) is) (filter (does is_terminator t) is)) ≡ cond u (i.id ∷ terminator_ids t is) (terminator_ids t is)
    go true = refl
    go false = refl

module _ (t : Target) (Goes Comes : Instr → Type 0) (Both : Instr → Instr → Type 0) where
  record KeepsTerminators : Type 0 where
    goes : (i : Instr) → Goes i → does is_terminator t i ≡ false
    comes : (j : Instr) → Comes j → does is_terminator t j ≡ false
    both : (i j : Instr) → Both i j → (i.id ≡ j.id) × (does is_terminator t i ≡ does is_terminator t j)

  place-kept : (n : ℕ) {bs cs : List Block} → AreBlocks Goes Comes Both bs cs → place_of n bs ≡ place_of n cs
  place-kept n no_blocks = refl
  place-kept n (block_stays number successors a rest) = λ k. cond (nat_eq (number k) n) (Some 0) (option_map (λ x. suc x) (place-kept n rest k))

  length-kept : {bs cs : List Block} → AreBlocks Goes Comes Both bs cs → length bs ≡ length cs
  length-kept no_blocks = refl
  length-kept (block_stays number successors a rest) = ap (λ n. suc n) (length-kept rest)

  exits-kept : (at : ℕ → Option ℕ) {bs cs : List Block} → AreBlocks Goes Comes Both bs cs → (b : ℕ) → exits_at at bs b ≡ exits_at at cs b
  exits-kept at no_blocks b = refl
  exits-kept at (block_stays number successors a rest) zero = λ k. edge_places at (successors k)
  exits-kept at (block_stays number successors a rest) (suc b) = exits-kept at rest b

  module _ (keeps : KeepsTerminators) where
    ids-kept : {is js : List Instr} → AreInstrs Goes Comes Both is js → terminator_ids t is ≡ terminator_ids t js
    ids-kept no_instrs = refl
    ids-kept (instr_stays {i = i} {is = is} {js = js} a) = terminator-step t i is ∙ (ap (lead (does is_terminator t i) i.id) (ids-kept a) ∙ sym (terminator-step t i js))
    ids-kept (instr_changes {i = i} {j = j} {is = is} {js = js} h a) =
        terminator-step t i is ∙ ((λ k. lead ((keeps.both i j h).1 k) ((keeps.both i j h).0 k) (ids-kept a k)) ∙ sym (terminator-step t j js))
    ids-kept (instr_goes {i = i} {is = is} h a) = terminator-step t i is ∙ (ap (λ u. lead u i.id (terminator_ids t is)) (keeps.goes i h) ∙ ids-kept a)
    ids-kept (instr_comes {j = j} {js = js} h a) = ids-kept a ∙ sym (terminator-step t j js ∙ ap (λ u. lead u j.id (terminator_ids t js)) (keeps.comes j h))

    terminators-kept : {bs cs : List Block} → AreBlocks Goes Comes Both bs cs → (b : ℕ) → terminators_at t bs b ≡ terminators_at t cs b
    terminators-kept no_blocks b = refl
    terminators-kept (block_stays number successors a rest) zero = ids-kept a
    terminators-kept (block_stays number successors a rest) (suc b) = terminators-kept rest b

    ways-kept : (f g : Function) (flow : List BlockFlow) → AreBlocks Goes Comes Both f.blocks g.blocks → HasWays t f flow → HasWays t g flow
    ways-kept f g flow a w =
        let old : ℕ → Option ℕ = λ n. place_of n f.blocks in
        let new : ℕ → Option ℕ = λ n. place_of n g.blocks in
        let same : old ≡ new = λ k. λ n. place-kept n a k in
        let exits : (b : ℕ) → exits_at old f.blocks b ≡ exits_at new g.blocks b = λ b. ap (λ (p : ℕ → Option ℕ). exits_at p f.blocks b) same ∙ exits-kept new a b in
        record {
          predecessors = λ x b h. w.predecessors x b (subst (λ n. x < n) (sym (length-kept a)) h) ∙ ap (has x) (exits b);
          successors = λ b x. w.successors b x ∙ ap (has x) (exits b);
          terminators = λ b. w.terminators b ∙ terminators-kept a b;
          blocks = w.blocks ∙ length-kept a;
        }

-- each edit

pub inserted-ways : (t : Target) (f : Function) (gap : Gap) (op : OpId) (os : List Operand) (flow : List BlockFlow) → KeepsWays t f (Put gap op os) → HasWays t f flow → HasWays t (inserted f gap op os) flow
inserted-ways t f gap op os flow keeps w =
    let IsNew : Instr → Type 0 = λ j. j ≡ made f.next_id op os in
    let kept : KeepsTerminators t Never IsNew NeverBoth = record { goes = λ i z. absurd z; comes = λ j e. ap (does is_terminator t) e ∙ keeps.1; both = λ i j z. absurd z } in
    ways-kept t Never IsNew NeverBoth kept f (inserted f gap op os) flow (put-blocks Never IsNew NeverBoth (made f.next_id op os) refl gap.before (block_place gap.block f.blocks) f.blocks) w

pub replaced-ways : (t : Target) (f : Function) (id : ℕ) (op : OpId) (os : List Operand) (flow : List BlockFlow) → KeepsWays t f (Replace id op os) → HasWays t f flow → HasWays t (replaced f id op os) flow
replaced-ways t f id op os flow keeps w =
    let g = replaced f id op os in
    let Turns : Instr → Instr → Type 0 = Becomes Never Never id (with_op op os) in
    let NoneGoes : Instr → Type 0 = GoesFrom Never Never Turns f.blocks in
    let NoneComes : Instr → Type 0 = ComesInto Never Never Turns g.blocks in
    let TurnsAt : Instr → Instr → Type 0 = BothAt Never Never Turns f.blocks g.blocks in
    let kept : KeepsTerminators t NoneGoes NoneComes TurnsAt = record {
      goes = λ i z. absurd z.3;
      comes = λ j z. absurd z.3;
      both = λ i j z. (sym (ap (λ (q : Instr). q.id) z.6.1), (keeps z.0 i (record { block = z.2; instr = z.4; named = z.6.0 })).2 ∙ sym (ap (does is_terminator t) z.6.1));
    } in
    ways-kept t NoneGoes NoneComes TurnsAt kept f g flow (blocks-placed Never Never Turns (change-blocks Never Never id (with_op op os) f.blocks)) w

pub deleted-ways : (t : Target) (f : Function) (id : ℕ) (flow : List BlockFlow) → KeepsWays t f (Erase id) → HasWays t f flow → HasWays t (deleted f id) flow
deleted-ways t f id flow keeps w =
    let g = deleted f id in
    let Gone : Instr → Type 0 = Named Never NeverBoth id in
    let OneGoes : Instr → Type 0 = GoesFrom Gone Never NeverBoth f.blocks in
    let NoneComes : Instr → Type 0 = ComesInto Gone Never NeverBoth g.blocks in
    let NoneTurns : Instr → Instr → Type 0 = BothAt Gone Never NeverBoth f.blocks g.blocks in
    let kept : KeepsTerminators t OneGoes NoneComes NoneTurns = record {
      goes = λ i z. (keeps z.0 i (record { block = z.1; instr = z.2; named = z.3 })).1;
      comes = λ j z. absurd z.3;
      both = λ i j z. absurd z.6;
    } in
    ways-kept t OneGoes NoneComes NoneTurns kept f g flow (blocks-placed Gone Never NeverBoth (erase-blocks Never NeverBoth id f.blocks)) w

has-rest : (x id : ℕ) (xs : List ℕ) → has x xs ≡ true → has x (id ∷ xs) ≡ true
has-rest x id xs h = go (nat_eq id x)
  where
    go : (u : Bool) → cond u true (has x xs) ≡ true
    go true = refl
    go false = h

-- those of some instructions that go, the last first
pub all-deleted-ways : (t : Target) (f : Function) (ids : List ℕ) (flow : List BlockFlow) → ((id : ℕ) → has id ids ≡ true → (gone : List ℕ) → KeepsWays t (all_deleted f gone) (Erase id)) → HasWays t f flow → HasWays t (all_deleted f ids) flow
all-deleted-ways t f [] flow keeps w = w
all-deleted-ways t f (id ∷ ids) flow keeps w =
    deleted-ways t (all_deleted f ids) id flow (keeps id (ap (λ u. cond u true (has id ids)) (eq-eqb id id refl)) ids)
    (all-deleted-ways t f ids flow (λ x h gone. keeps x (has-rest x id ids h) gone) w)
