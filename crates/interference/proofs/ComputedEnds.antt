-- What a computed table has: its extents lie in blocks of the function, between instructions of the order, whose numbers fit 64 bits.
use Rattle.std.proofs.Common.{◌≡◌, ◌∙◌, ◌<◌, ◌≤◌, ◌⊎◌, inl, inr, ⊎_elim, ℕ, zero, suc, Bool, true, false, cond, length, map, List, [], ◌∷◌, ◌++◌, Option, None, Some, refl, sym, ap, subst, arith}
use Rattle.std.specs.Prelude.{nat_lt, slice_get}
use Rattle.std.specs.List.{cons_option}
use Rattle.std.proofs.lemmas.Bool.{cases_lt, ltb-true}
use Rattle.target_base.specs.declared.types.Target.{Target}
use Rattle.mir_func.specs.declared.func.Block.{Block}
use Rattle.mir_func.specs.declared.func.Instr.{Instr}
use Rattle.mir_func.specs.Value.{Function}
use Rattle.mir_meaning.specs.Paths.{Among, here, there, Code, Step, exits_of, has, last_of, steps_of}
use Rattle.slot_index.specs.Order.{Has, ids, number_of, place}
use Rattle.slot_index.proofs.Present.{has_from_number, number_of-above, number_of-absent}
use Rattle.instr_effects.specs.Numbered.{number_in}
use Rattle.live_lanes.specs.declared.ask.extent.Extent.{Extent}
use Rattle.live_lanes.specs.declared.row.PieceEnd.{PieceEnd}
use Rattle.live_lanes.specs.declared.row.PieceEnd.TheVariants as ends
use Rattle.live_lanes.specs.declared.table.Table.{Table}
use Rattle.live_lanes.specs.Coded.{Doing, bodies_from}
use Rattle.live_lanes.specs.Doing.{doing_of, lane_code, IsComputed}
use Rattle.live_lanes.specs.Ends.{Counts, reads, moves, leaves, goes, phi}
use Rattle.live_lanes.specs.Entered.{Shape, causes, rows_seen, start_of, starts, IsTableOf}
use Rattle.live_lanes.specs.Extents.{block_extent, extents_in}
use Rattle.live_lanes.specs.Graph.{Causes}
use Rattle.live_lanes.specs.Ordered.{place_of}
use Rattle.live_lanes.specs.Reach.{is_never}
use Rattle.live_lanes.specs.Table.{Begun, Numbers, Seen, end_in, rises_from}
use Rattle.live_lanes.proofs.Basics.{among-append, none-among}
use Rattle.live_lanes.proofs.Cells.{both-left, both-right}
use Rattle.live_lanes.proofs.ExtentLists.{begun_extent, extents-rows}
use Rattle.live_lanes.proofs.LayoutNumbers.{locate}
use Rattle.live_lanes.proofs.Numbered.{among-cases, rises-above, rises-bounded}
use Rattle.live_laws.specs.Effects.Coded.{KeepsRules}
use Rattle.live_laws.proofs.Exact.Inside.{all}
use Rattle.edit_laws.specs.Further.{KeepsLast}
use Rattle.interference.specs.EditedLists.{HasEnds, end_instr}
use Rattle.interference.specs.declared.matrix.Matrix.{Matrix}
use Rattle.interference.specs.EditedMatrix.{HasAllEnds, NoneClash, StandsClear, StandsKept}
use Rattle.interference.specs.Listed.{AreInTurn, KeepsLists, has_some}
use Rattle.live_edits.specs.LiveRuns.{MayBeEditedLive}
use Rattle.edit_laws.specs.Edits.{Edit}
use Rattle.interference.proofs.EditedFunc.{has-listed}
use Rattle.interference.proofs.NewRange.{in-order}
use Rattle.interference.proofs.PutBack.{some-of}

-- an instruction of a block is a step of its code
steps-member : (doing : Doing) (home : ℕ → Option ℕ) (whole : List Block) (n : ℕ) (bs : List Block) (k : ℕ) (b : Block) (j : ℕ) (i : Instr) → slice_get bs k ≡ Some b → slice_get b.instrs j ≡ Some i → Among ((doing i).0) (steps_of (bodies_from doing home whole n bs) k)
steps-member doing home whole n [] k b j i at there-is = absurd (cc)
steps-member doing home whole n (x ∷ bs) zero b j i at there-is = subst (λ (y : Block). Among ((doing i).0) (map (λ z. (doing z).0) y.instrs)) (sym (some-of at)) (mapped b.instrs j there-is)
  where
    mapped : (is : List Instr) (m : ℕ) → slice_get is m ≡ Some i → Among ((doing i).0) (map (λ z. (doing z).0) is)
    mapped [] m e = absurd (cc)
    mapped (y ∷ is) zero e = subst (λ (z : Instr). Among ((doing i).0) ((doing z).0 ∷ map (λ w. (doing w).0) is)) (sym (some-of e)) here
    mapped (y ∷ is) (suc m) e = there (mapped is m e)
steps-member doing home whole n (x ∷ bs) (suc k) b j i at there-is = steps-member doing home whole (suc n) bs k b j i at there-is

bodies-past : (doing : Doing) (home : ℕ → Option ℕ) (whole : List Block) (n : ℕ) (bs : List Block) (k : ℕ) → length bs ≤ k → slice_get (bodies_from doing home whole n bs) k ≡ None
bodies-past doing home whole n [] k le = refl
bodies-past doing home whole n (x ∷ bs) zero le = absurd (omega arith)
bodies-past doing home whole n (x ∷ bs) (suc k) le = bodies-past doing home whole (suc n) bs k (omega arith)

module _ (t : Target) (f : Function) (x : Table) (computed : IsComputed t f x) (rules : KeepsRules t f) (last : KeepsLast t f) where
  abbrev code : Code
  code = lane_code t f (number_in x.lanes)

  abbrev slots : Numbers
  slots = x.order.slots

  abbrev why : Causes
  why = causes x.rows.rows.items

  table : IsTableOf code slots x.flow.items x.rows.rows.items
  table = computed.table (all t f x computed rules last)

  step-has : (b : ℕ) (before : List Step) (s : Step) (rest : List Step) → steps_of code b ≡ before ++ s ∷ rest → (id : ℕ) → Some s.id ≡ Some id → Has slots id
  step-has b before s rest e id same =
      let up = rises-above slots 0 (steps_of code b) s (table.numbered b) (subst (Among s) (sym e) (among-append s before rest)) in
      subst (Has slots) (some-of same) (has_from_number slots s.id up)

  counts-has : {l b n : ℕ} {p : PieceEnd} → Counts code why l b n p → (id : ℕ) → end_instr p ≡ Some id → Has slots id
  counts-has {l} {b} {n} (reads before s rest e k u) id same = step-has b before s rest e id same
  counts-has {l} {b} {n} (moves a before s rest e k u g) id same = step-has b before s rest e id same
  counts-has {l} {b} {n} (leaves y before s rest e k w a g) id same = step-has b before s rest e id same
  counts-has {l} {b} {n} (goes y k a g) id same = absurd (cc)
  counts-has {l} {b} {n} (phi k a) id same = absurd (cc)

  end-has : (l b n : ℕ) (id : ℕ) → end_instr (end_in (rows_seen x.rows.rows.items l b) n) ≡ Some id → Has slots id
  end-has l b n id same = go ((computed.ended (all t f x computed rules last)) l b n).counts
    where
      go : (end_in (rows_seen x.rows.rows.items l b) n ≡ ends.Never) ⊎ Counts code why l b n (end_in (rows_seen x.rows.rows.items l b) n) → Has slots id
      go (inl e) = absurd (let z : None ≡ Some id = sym (ap end_instr e) ∙ same in cc)
      go (inr c) = counts-has c id same

  -- the extents of pieces that writings begin
  begun-ends : (n k : ℕ) (ss : List Begun) → rises_from slots n ss ≡ true → ((j : ℕ) (s : Begun) → slice_get ss j ≡ Some s → (id : ℕ) → end_instr s.end ≡ Some id → Has slots id) → (e : Extent) → Among e (map begun_extent ss) → HasEnds slots e
  begun-ends n k [] r own e m = absurd (none-among e m)
  begun-ends n k (s ∷ ss) r own e m = go (among-cases e (begun_extent s) (map begun_extent ss) m) (begun-ends (number_of slots s.start) k ss (both-right (nat_lt n (number_of slots s.start)) (rises_from slots (number_of slots s.start) ss) r) (λ j y at. own (suc j) y at) e)
    where
      up : n < number_of slots s.start
      up = ltb-true n (number_of slots s.start) (both-left (nat_lt n (number_of slots s.start)) (rises_from slots (number_of slots s.start) ss) r)

      go : (e ≡ begun_extent s) ⊎ Among e (map begun_extent ss) → (Among e (map begun_extent ss) → HasEnds slots e) → HasEnds slots e
      go (inl is) ih = subst (HasEnds slots) (sym is) (record { first = λ id same. subst (Has slots) (some-of same) (has_from_number slots s.start (omega (arith, up))); last = own 0 s refl })
      go (inr a) ih = ih a

  all-ends : (l b : ℕ) (e : Extent) → Among e (extents_in x l b) → HasEnds slots e
  all-ends l b e m = go (is_never v.end) (subst (Among e) (extents-rows x l b) m)
    where
      v : Seen
      v = rows_seen x.rows.rows.items l b

      later : Among e (map begun_extent v.segments) → HasEnds slots e
      later a = begun-ends 0 0 v.segments (in-order t f x computed rules last l b) (λ j s at id same. end-has l b (suc j) id (ap (λ o. end_instr (Rattle.live_lanes.specs.Table.begun_end o)) at ∙ same)) e a

      first : Extent
      first = record { start = None; early = false; end = v.end }

      go : (u : Bool) → Among e (cons_option (cond u None (Some first)) (map begun_extent v.segments)) → HasEnds slots e
      go true a = later a
      go false a = ⊎_elim (λ (is : e ≡ first). subst (HasEnds slots) (sym is) (record { first = λ id same. absurd (cc); last = λ id same. end-has l b 0 id same })) later (among-cases e first (map begun_extent v.segments) a)

  small : (id : ℕ) → number_of slots id < 18446744073709551616
  small id = go (cases_lt (place id (ids slots)) (length (ids slots)))
    where
      there-is : Has slots id → number_of slots id < 18446744073709551616
      there-is h =
          let z = locate f.blocks id (subst (λ xs. has id xs ≡ true) computed.layout (has-listed slots id h)) in
          let doing : Doing = doing_of t f (number_in x.lanes) in
          let step : Step = (doing z.instr).0 in
          subst (λ n. number_of slots n < 18446744073709551616) z.own
          (rises-bounded slots 0 (steps_of code z.place) step (table.numbered z.place) (steps-member doing (λ n. place_of n f.blocks) f.blocks 0 f.blocks z.place z.block z.index z.instr z.at z.there))

      go : (place id (ids slots) < length (ids slots)) ⊎ (length (ids slots) ≤ place id (ids slots)) → number_of slots id < 18446744073709551616
      go (inl h) = there-is h
      go (inr le) = let none : number_of slots id ≡ 0 = number_of-absent slots id (λ h. omega arith) in omega arith

  -- there is no code behind the last block
  module _ (b : ℕ) (past : length f.blocks ≤ b) where
    no-body : slice_get code b ≡ None
    no-body = bodies-past (doing_of t f (number_in x.lanes)) (λ n. place_of n f.blocks) f.blocks 0 f.blocks b past

    no-steps : steps_of code b ≡ []
    no-steps = λ i. elim (no-body i) [ None ↦ [] | Some y ↦ y.steps ]

    no-step : (before : List Step) (s : Step) (rest : List Step) → steps_of code b ≡ before ++ s ∷ rest → ⊥
    no-step before s rest e = none-among s (subst (Among s) (sym e ∙ no-steps) (among-append s before rest))

    no-exit : (y : ℕ) → Among y (exits_of code b) → ⊥
    no-exit y a = none-among y (subst (Among y) (λ i. elim (no-body i) [ None ↦ [] | Some z ↦ z.exits ]) a)

    no-last : (l : ℕ) → Among l (last_of code b) → ⊥
    no-last l a = none-among l (subst (Among l) (λ i. elim (no-body i) [ None ↦ [] | Some z ↦ z.last ]) a)

    no-counts : {l n : ℕ} {p : PieceEnd} → Counts code why l b n p → ⊥
    no-counts {l} {n} (reads before s rest e k u) = no-step before s rest e
    no-counts {l} {n} (moves a before s rest e k u g) = no-step before s rest e
    no-counts {l} {n} (leaves y before s rest e k w a g) = no-step before s rest e
    no-counts {l} {n} (goes y k a g) = no-exit y a
    no-counts {l} {n} (phi k a) = no-last l a

    no-segments : (l : ℕ) → (rows_seen x.rows.rows.items l b).segments ≡ []
    no-segments l = none (rows_seen x.rows.rows.items l b).segments (ap (λ (s : Shape). s.segments) (table.entered l b) ∙ ap (starts l) no-steps)
      where
        none : (ss : List Begun) → map start_of ss ≡ [] → ss ≡ []
        none [] e = refl
        none (s ∷ ss) e = absurd (cc)

    no-extents : (l : ℕ) → extents_in x l b ≡ []
    no-extents l = extents-rows x l b ∙ (λ i. cons_option (block_extent (never i)) (map begun_extent (no-segments l i)))
      where
        never : (rows_seen x.rows.rows.items l b).end ≡ ends.Never
        never = go ((computed.ended (all t f x computed rules last)) l b 0).counts
          where
            go : (end_in (rows_seen x.rows.rows.items l b) 0 ≡ ends.Never) ⊎ Counts code why l b 0 (end_in (rows_seen x.rows.rows.items l b) 0) → end_in (rows_seen x.rows.rows.items l b) 0 ≡ ends.Never
            go (inl e) = e
            go (inr c) = absurd (no-counts c)

  -- extents lie in blocks of the function
  pub computed-within : (l b : ℕ) → has_some (extents_in x l b) ≡ true → b < length f.blocks
  computed-within l b some = go (cases_lt b (length f.blocks))
    where
      go : (b < length f.blocks) ⊎ (length f.blocks ≤ b) → b < length f.blocks
      go (inl lt) = lt
      go (inr le) = absurd (let z : false ≡ true = sym (ap has_some (no-extents b le l)) ∙ some in cc)

  -- a table that is computed has the ends of its extents in the order
  pub computed-ends : HasAllEnds x
  computed-ends = record {
    ends = all-ends;
    numbers = record { positive = λ id h. number_of-above 0 slots id computed.numbered.positive h; small = small };
  }

pub stands-kept : (m : Matrix) (es : List Edit) → MayBeEditedLive m.live es → KeepsLists m → StandsKept m
stands-kept m es may keeps = record {
  keeps = keeps;
  within = computed-within m.live.target m.live.func m.live.table may.computed may.rules may.last;
  ends = computed-ends m.live.target m.live.func m.live.table may.computed may.rules may.last;
}

-- a matrix of a computed table, whose extents lie in turn and don't clash
pub stands-clear : (m : Matrix) → IsComputed m.live.target m.live.func m.live.table → KeepsRules m.live.target m.live.func → KeepsLast m.live.target m.live.func → ((l b : ℕ) → AreInTurn m.live.table.order.slots 0 (extents_in m.live.table l b)) → NoneClash m → StandsClear m
stands-clear m computed rules last turns clear = record {
  order = in-order m.live.target m.live.func m.live.table computed rules last;
  lies = record { turns = turns; within = computed-within m.live.target m.live.func m.live.table computed rules last };
  clear = clear;
  ends = computed-ends m.live.target m.live.func m.live.table computed rules last;
}
