-- Coalescing: which copies are tried, in which order, and what is joined.
use Rattle.std.specs.Prelude.{◌≡◌, ℕ, Bool, true, false, cond, ◌&&◌, ◌||◌, nat_eq, nat_lt, min, max, List, [], ◌∷◌, map, filter, filter_map, flat_map, find, zip, Option, Some, None}
use Rattle.std.specs.List.{list_all}
use Rattle.target_base.specs.declared.types.IndexId.{IndexId}
use Rattle.target_base.specs.declared.types.Target.{Target}
use Rattle.target_base.specs.Registers.{lanes_of}
use Rattle.target_base.specs.Storage.{holds_subs, lanes_fit}
use Rattle.mir_func.specs.declared.func.Loc.{Loc}
use Rattle.mir_func.specs.declared.func.Loc.TheVariants.{Virtual}
use Rattle.mir_func.specs.declared.func.RegOp.{RegOp}
use Rattle.mir_func.specs.declared.func.Instr.{Instr}
use Rattle.mir_func.specs.declared.func.Block.{Block}
use Rattle.mir_func.specs.Value.{Function}
use Rattle.mir_func.specs.Binding.{registers}
use Rattle.mir_meaning.specs.Points.{is_range}
use Rattle.live_edits.specs.declared.fold.Join.{Join}
use Rattle.live_edits.specs.Folded.{composed, copy_sides, registers_of, is_narrower, folded, all_instrs}
use Rattle.join_laws.specs.Quiet.{IsQuiet}

-- the index with which an operand names the range
abbrev pub index_on : ℕ → RegOp → Option IndexId
index_on v o = cond (is_range v o.loc) o.index None

-- the indexes with which operands name a range
abbrev pub indexes_on : Function → ℕ → List IndexId
indexes_on f v = flat_map (λ i. filter_map (index_on v) (registers i.operands)) (all_instrs f)

-- an index within lanes of a range fits its class
abbrev pub fits_range : Target → Function → ℕ → Option IndexId → Bool
fits_range t f v None = false
fits_range t f v (Some x) = lanes_fit t.regs (lanes_of t x) (registers_of t f v)

-- two ranges as wholes: the one's registers are registers of the other. The lower number stays.
abbrev pub whole_join : Target → Function → ℕ → ℕ → Option Join
whole_join t f a b = cond (is_narrower t f a b || is_narrower t f b a) (Some (record { keep = min a b; gone = max a b; index = None })) None

-- range b as lanes of range a: these lanes of a's registers are registers of b, and the indexes of b fit there. a stays.
abbrev pub part_join : Target → Function → ℕ → IndexId → ℕ → Option Join
part_join t f a x b =
    cond (holds_subs t.regs (lanes_of t x) (registers_of t f a) (registers_of t f b) && list_all (λ y. fits_range t f a (composed t x y)) (indexes_on f b))
    (Some (record { keep = a; gone = b; index = Some x }))
    None

-- the join of a copy's sides by their indexes; with two indexes there is none
abbrev pub indexed_join : Target → Function → ℕ → Option IndexId → ℕ → Option IndexId → Option Join
indexed_join t f a None b None = whole_join t f a b
indexed_join t f a (Some x) b None = part_join t f a x b
indexed_join t f a None b (Some x) = part_join t f b x a
indexed_join t f a (Some x) b (Some y) = None

-- the ranges of a copy between two different ranges
abbrev pub two_ranges : Loc → Loc → Option (ℕ × ℕ)
two_ranges (Virtual a) (Virtual b) = cond (nat_eq a b) None (Some (a, b))
two_ranges _ _ = None

-- the join that a copy asks for, by classes and indexes
abbrev pub sides_join : Target → Function → Option (RegOp × RegOp) → Option Join
sides_join t f None = None
sides_join t f (Some (d, s)) = elim (two_ranges d.loc s.loc) [ None ↦ None | Some p ↦ indexed_join t f p.0 d.index p.1 s.index ]

-- that of the instruction of an id, where it stands yet
abbrev pub join_at : Target → Function → ℕ → Option Join
join_at t f id = elim (find (λ i. nat_eq i.id id) (all_instrs f)) [ None ↦ None | Some i ↦ sides_join t f (copy_sides t i) ]

-- the instruction copies between two different ranges
abbrev pub copies_ranges : Target → Instr → Bool
copies_ranges t i = elim (copy_sides t i) [ None ↦ false | Some p ↦ elim (two_ranges p.0.loc p.1.loc) [ None ↦ false | Some q ↦ true ] ]

-- the copies of a block, by their ids, with its frequency
abbrev pub block_copies : Target → ℕ × Block → List (ℕ × ℕ)
block_copies t p = map (λ i. (p.0, i.id)) (filter (copies_ranges t) p.1.instrs)

-- an item is put before those that are as frequent or less
abbrev pub put_by_frequency : ℕ × ℕ → List (ℕ × ℕ) → List (ℕ × ℕ)
put_by_frequency c [] = c ∷ []
put_by_frequency c (d ∷ ds) = cond (nat_lt c.0 d.0) (d ∷ put_by_frequency c ds) (c ∷ d ∷ ds)

-- the most frequent first, and then in the order in which they stand
abbrev pub by_frequency : List (ℕ × ℕ) → List (ℕ × ℕ)
by_frequency [] = []
by_frequency (c ∷ cs) = put_by_frequency c (by_frequency cs)

-- the copies between ranges, by their ids, in the order in which they are tried: by block frequency, the greatest first, then by layout
abbrev pub copies_in_order : Target → List ℕ → List Block → List ℕ
copies_in_order t freqs bs = map (λ c. c.1) (by_frequency (flat_map (block_copies t) (zip freqs bs)))

-- the copy of an id may be joined so, and no value is lost by that
abbrev pub Joins : Target → Function → ℕ → Join → Type 0
Joins t f id j = (join_at t f id ≡ Some j) × IsQuiet t f j

-- Copies are tried in this order, each once and on the function as earlier joins left it: the joins that are made,
-- and the function then.
pub data Tried (t : Target) : List ℕ → Function → List Join → Function → Type 0 where
  done : {f : Function} → Tried t [] f [] f
  joins : {f g : Function} {id : ℕ} {ids : List ℕ} {j : Join} {js : List Join} → Joins t f id j → Tried t ids (folded t j f) js g → Tried t (id ∷ ids) f (j ∷ js) g
  stays : {f g : Function} {id : ℕ} {ids : List ℕ} {js : List Join} → ((j : Join) → Joins t f id j → ⊥) → Tried t ids f js g → Tried t (id ∷ ids) f js g

-- g is the function f with its copies joined, and these are the joins in order
abbrev pub Joined : Target → List ℕ → Function → List Join → Function → Type 0
Joined t freqs f js g = Tried t (copies_in_order t freqs f.blocks) f js g
