-- The pieces of a computed table begin with instructions of their blocks.
use Rattle.std.proofs.Common.{◌≡◌, ◌⊎◌, ℕ, Bool, true, false, cond, List, [], ◌∷◌, Option, Some, None, map, inl, inr, refl, sym, ap, ◌∙◌, subst, eq-eqb}
use Rattle.std.specs.Prelude.{nat_eq, option_map, slice_get}
use Rattle.std.specs.List.{cons_option}
use Rattle.std.proofs.lemmas.Option.{slice_get-map}
use Rattle.target_base.specs.declared.types.Target.{Target}
use Rattle.meaning.specs.Live.{Among as Member}
use Rattle.mir_func.specs.declared.func.Block.{Block}
use Rattle.mir_func.specs.declared.func.Instr.{Instr}
use Rattle.mir_func.specs.Value.{Function}
use Rattle.mir_meaning.specs.Rules.{V8}
use Rattle.mir_meaning.specs.declared.writing.LaneDef.{LaneDef}
use Rattle.mir_meaning.specs.Paths.{Among, here, there, Body, Code, Step, has, steps_of, writing_of}
use Rattle.instr_effects.specs.Numbered.{number_in}
use Rattle.instr_effects.specs.Steps.{Numbering}
use Rattle.live_lanes.specs.declared.ask.extent.Extent.{Extent}
use Rattle.live_lanes.specs.declared.row.PieceEnd.{PieceEnd}
use Rattle.live_lanes.specs.declared.table.Table.{Table}
use Rattle.live_lanes.specs.Doing.{IsComputed}
use Rattle.live_lanes.specs.Entered.{IsTableOf, Start, readings_until, rows_seen, start_of, starts}
use Rattle.live_lanes.specs.Extents.{block_extent, extents_in}
use Rattle.live_lanes.specs.Ordered.{ids_of}
use Rattle.live_lanes.specs.Reach.{is_never}
use Rattle.live_lanes.specs.Spread.{IsWithin}
use Rattle.live_lanes.specs.Table.{Begun}
use Rattle.live_lanes.proofs.ExtentLists.{begun_extent, extents-rows}
use Rattle.live_laws.specs.Acts.{BeginsLaw}
use Rattle.live_laws.specs.Effects.Coded.{body_of, instr_step, numbered_code, KeepsRules}
use Rattle.live_laws.proofs.Effects.Whole.{steps-at}
use Rattle.live_laws.proofs.Exact.Coded.{code-same}
use Rattle.live_laws.proofs.Exact.Inside.{all, numbered}

split-among : {X : Type 0} (x y : X) (ys : List X) → Among x (y ∷ ys) → (x ≡ y) ⊎ Among x ys
split-among x y ys here = inl refl
split-among x y ys (there m) = inr m

-- an extent is that of the piece that begins with the block, or of one that begins with a writing
either-extent : (d : PieceEnd) (xs : List Extent) (e : Extent) → Among e (cons_option (block_extent d) xs) → (e.start ≡ None) ⊎ Among e xs
either-extent d xs e m = go (is_never d) m
  where
    first : (y : Extent) → y.start ≡ None → (e ≡ y) ⊎ Among e xs → (e.start ≡ None) ⊎ Among e xs
    first y g (inl h) = inl (ap (λ (z : Extent). z.start) h ∙ g)
    first y g (inr h) = inr h

    go : (u : Bool) → Among e (cons_option (cond u None (Some (record { start = None; early = false; end = d }))) xs) → (e.start ≡ None) ⊎ Among e xs
    go true k = inr k
    go false k = first (record { start = None; early = false; end = d }) refl (split-among e (record { start = None; early = false; end = d }) xs k)

either-has : (a id : ℕ) (ids : List ℕ) → (a ≡ id) ⊎ (has id ids ≡ true) → has id (a ∷ ids) ≡ true
either-has a id ids (inl e) = ap (λ t. cond t true (has id ids)) (eq-eqb a id e)
either-has a id ids (inr h) = go (nat_eq a id)
  where
    go : (t : Bool) → cond t true (has id ids) ≡ true
    go true = refl
    go false = h

abbrev start_ids : List Start → List ℕ
start_ids zs = map (λ z. z.start) zs

begun-start : (ss : List Begun) (e : Extent) → Among e (map begun_extent ss) → (id : ℕ) × (e.start ≡ Some id) × (has id (start_ids (map start_of ss)) ≡ true)
begun-start [] e m = absurd (none m)
  where
    none : Among e [] → ⊥
    none k = elim k [ ]
begun-start (s ∷ ss) e m = go (split-among e (begun_extent s) (map begun_extent ss) m) (begun-start ss e)
  where
    go : (e ≡ begun_extent s) ⊎ Among e (map begun_extent ss) → (Among e (map begun_extent ss) → (id : ℕ) × (e.start ≡ Some id) × (has id (start_ids (map start_of ss)) ≡ true)) → (id : ℕ) × (e.start ≡ Some id) × (has id (s.start ∷ start_ids (map start_of ss)) ≡ true)
    go (inl f) ih = (s.start, ap (λ (y : Extent). y.start) f, either-has s.start s.start (start_ids (map start_of ss)) (inl refl))
    go (inr k) ih = let z = ih k in (z.0, z.1, either-has s.start z.0 (start_ids (map start_of ss)) (inr z.2))

abbrev step_ids : List Step → List ℕ
step_ids ss = map (λ s. s.id) ss

starts-steps : (l id : ℕ) (ss : List Step) → has id (start_ids (starts l ss)) ≡ true → has id (step_ids ss) ≡ true
starts-steps l id [] h = h
starts-steps l id (s ∷ ss) h = go (writing_of l s.writes) h (starts-steps l id ss)
  where
    own : (t : Bool) → nat_eq s.id id ≡ t → cond t true (has id (start_ids (starts l ss))) ≡ true → (has id (start_ids (starts l ss)) ≡ true → has id (step_ids ss) ≡ true) → has id (s.id ∷ step_ids ss) ≡ true
    own true e f ih = ap (λ t. cond t true (has id (step_ids ss))) e
    own false e f ih = either-has s.id id (step_ids ss) (inr (ih f))

    go : (o : Option LaneDef) → has id (start_ids (elim o [ None ↦ starts l ss | Some w ↦ record { start = s.id; early = w.early; from = w.from; readings = readings_until l ss } ∷ starts l ss ])) ≡ true → (has id (start_ids (starts l ss)) ≡ true → has id (step_ids ss) ≡ true) → has id (s.id ∷ step_ids ss) ≡ true
    go None f ih = either-has s.id id (step_ids ss) (inr (ih f))
    go (Some w) f ih = own (nat_eq s.id id) refl f ih

module _ (t : Target) (f : Function) (x : Table) (computed : IsComputed t f x) (rules : KeepsRules t f) (last : (b : Block) (j : ℕ) (i : Instr) → Member b f.blocks → slice_get b.instrs j ≡ Some i → V8 t b j i ≡ true) where
  abbrev num : Numbering
  num = number_in x.lanes

  abbrev code : Code
  code = numbered_code t f num

  stands : IsTableOf code x.order.slots x.flow.items x.rows.rows.items
  stands = subst (λ c. IsTableOf c x.order.slots x.flow.items x.rows.rows.items) (code-same t f num rules) (computed.table (all t f x computed rules last))

  instr-ids : (is : List Instr) → step_ids (map (instr_step t f num) is) ≡ ids_of is
  instr-ids [] = refl
  instr-ids (i ∷ is) = ap (λ ids. i.id ∷ ids) (instr-ids is)

  steps-within : (p id : ℕ) → has id (step_ids (steps_of code p)) ≡ true → (b : Block) × (slice_get f.blocks p ≡ Some b) × (has id (ids_of b.instrs) ≡ true)
  steps-within p id h = go (slice_get f.blocks p) refl
    where
      no-steps : slice_get f.blocks p ≡ None → steps_of code p ≡ []
      no-steps e = ap (λ (q : Option Body). elim q [ None ↦ [] | Some y ↦ y.steps ]) (slice_get-map (body_of t f num) f.blocks p ∙ ap (option_map (body_of t f num)) e)

      go : (q : Option Block) → slice_get f.blocks p ≡ q → (b : Block) × (slice_get f.blocks p ≡ Some b) × (has id (ids_of b.instrs) ≡ true)
      go None e = absurd (let z : has id [] ≡ true = subst (λ ss. has id (step_ids ss) ≡ true) (no-steps e) h in cc)
      go (Some b) e = (b, e, subst (λ ids. has id ids ≡ true) (ap step_ids (steps-at t f num rules (numbered t f x computed rules last) p b e) ∙ instr-ids b.instrs) h)

  pub begins : (l p : ℕ) (e : Extent) → Among e (extents_in x l p) → IsWithin f.blocks p e.start
  begins l p e m = go (either-extent (rows_seen x.rows.rows.items l p).end (map begun_extent (rows_seen x.rows.rows.items l p).segments) e (subst (Among e) (extents-rows x l p) m))
    where
      go : (e.start ≡ None) ⊎ Among e (map begun_extent (rows_seen x.rows.rows.items l p).segments) → IsWithin f.blocks p e.start
      go (inl g) = subst (IsWithin f.blocks p) (sym g) tt
      go (inr k) =
          let z = begun-start (rows_seen x.rows.rows.items l p).segments e k in
          let y = starts-steps l z.0 (steps_of code p) (subst (λ ss. has z.0 (start_ids ss) ≡ true) (ap (λ h. h.segments) (stands.entered l p)) z.2) in
          subst (IsWithin f.blocks p) (sym z.1) (steps-within p z.0 y)

pub begins-law : BeginsLaw
begins-law t f x computed rules last = begins t f x computed rules last
