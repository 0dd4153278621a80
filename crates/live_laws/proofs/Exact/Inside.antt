-- A computed table tells at the entry and at the exit of each instruction exactly which lanes are live.
use Rattle.std.proofs.Common.{◌≡◌, ℕ, zero, suc, Bool, true, false, cond, List, [], ◌∷◌, ◌++◌, Option, Some, None, map, take, drop, refl, sym, ap, ◌∙◌, subst, eq-eqb}
use Rattle.std.specs.Prelude.{◌↔◌, slice_get, slice_index, nat_eq}
use Rattle.target_base.specs.declared.types.Target.{Target}
use Rattle.meaning.specs.declared.types.Lane.{Lane}
use Rattle.meaning.specs.Live.{Among as Member, is_slot, Live as LivePlace, LiveAfter}
use Rattle.mir_func.specs.declared.func.Block.{Block}
use Rattle.mir_func.specs.declared.func.Instr.{Instr}
use Rattle.mir_func.specs.Value.{Function}
use Rattle.mir_meaning.specs.Registers.{is_reserved}
use Rattle.mir_meaning.specs.Points.{from_instr, AtFirst, Entry, Exit, LiveAt}
use Rattle.mir_meaning.specs.Rules.{V8}
use Rattle.mir_meaning.specs.Paths.{Step, Code, steps_of, Live, has}
use Rattle.mir_meaning.specs.Paths as law
use Rattle.instr_effects.specs.Numbered.{number_in}
use Rattle.instr_effects.specs.Steps.{Numbering}
use Rattle.instr_effects.specs.Stepping.{tag_of}
use Rattle.live_laws.specs.Effects.Shaped.{is_proper}
use Rattle.live_laws.specs.Effects.Coded.{instr_step, numbered_code, spot_in, KeepsRules, IsNumbered}
use Rattle.live_laws.specs.Effects.Laws.{LiveByNumber}
use Rattle.live_laws.proofs.Effects.Numbered.{number-law}
use Rattle.live_laws.proofs.Effects.Tabled.{table-law}
use Rattle.live_laws.proofs.Effects.Whole.{steps-at, points-are}
use Rattle.live_lanes.specs.declared.table.Table.{Table}
use Rattle.live_lanes.specs.Graph.{IsGrown}
use Rattle.live_lanes.specs.Table.{entry_rank, exit_rank}
use Rattle.live_lanes.specs.Entered.{causes, IsTableOf}
use Rattle.live_lanes.specs.Ordered.{ids_of}
use Rattle.live_lanes.specs.Ends.{AreEnds, row_at}
use Rattle.live_lanes.specs.Laws.{AllMatched, TellsLive}
use Rattle.live_lanes.specs.Doing.{lane_code, IsComputed}
use Rattle.live_lanes.specs.Looks.{entry_at, exit_at}
use Rattle.live_lanes.proofs.Looked.{look-law}
use Rattle.live_laws.specs.Exact.Same.{IsQuiet}
use Rattle.live_laws.specs.Exact.Laws.{InsideLaw}
use Rattle.live_laws.proofs.Exact.Coded.{code-same}
use Rattle.live_laws.proofs.Exact.Quieter.{quiet-law}
use Rattle.live_laws.proofs.Exact.Same.{same-forth, same-back}
use Rattle.live_laws.proofs.Exact.Spots.{Spot, spot, drop-at, entry-numbered, exit-numbered}
use Rattle.live_laws.proofs.Exact.Starts.{matched}

map-get : {X Y : Type 0} (f : X → Y) (xs : List X) (k : ℕ) (x : X) → slice_get xs k ≡ Some x → slice_get (map f xs) k ≡ Some (f x)
map-get f [] k x e = absurd (cc)
map-get f (y ∷ xs) zero x e = let z : y ≡ x = cc in ap (λ t. Some (f t)) z
map-get f (y ∷ xs) (suc k) x e = map-get f xs k x e

pub has-id : (is : List Instr) (k : ℕ) (i : Instr) → slice_get is k ≡ Some i → has i.id (ids_of is) ≡ true
has-id [] k i e = absurd (cc)
has-id (j ∷ is) zero i e = let same : j ≡ i = cc in ap (λ u. cond u true (has i.id (ids_of is))) (eq-eqb j.id i.id (ap (λ x. x.id) same))
has-id (j ∷ is) (suc k) i e = go (nat_eq j.id i.id) (has-id is k i e)
  where
    go : (u : Bool) → has i.id (ids_of is) ≡ true → cond u true (has i.id (ids_of is)) ≡ true
    go true h = refl
    go false h = h

module _ (t : Target) (f : Function) (x : Table) (computed : IsComputed t f x) (rules : KeepsRules t f) (last : (b : Block) (j : ℕ) (i : Instr) → Member b f.blocks → slice_get b.instrs j ≡ Some i → V8 t b j i ≡ true) where
  abbrev num : Numbering
  num = number_in x.lanes

  pub numbered : IsNumbered t f num
  numbered = table-law t f x.lanes computed.numbers rules

  abbrev code : Code
  code = numbered_code t f num

  pub quiet : IsQuiet code
  quiet = quiet-law t f num rules numbered last

  pub all : AllMatched (lane_code t f num)
  all = subst AllMatched (sym (code-same t f num rules)) (matched t f num rules numbered quiet)

  tells : TellsLive code x.order.slots x.rows.rows.items
  tells = look-law code x.order.slots x.flow.items x.rows.rows.items
      (subst (λ c. IsTableOf c x.order.slots x.flow.items x.rows.rows.items) (code-same t f num rules) (computed.table all))
      (subst (λ c. IsGrown c (causes x.rows.rows.items)) (code-same t f num rules) (computed.grown all))
      (subst (λ c. AreEnds c x.order.slots x.rows.rows.items) (code-same t f num rules) (computed.ended all))

  module _ (id p k : ℕ) (at : spot_in id f.blocks ≡ Some (p, k)) where
    pub s : Spot t f id f.blocks p k
    s = spot t f id f.blocks p k at

    abbrev step : Step
    step = instr_step t f num s.instr

    there : slice_get (steps_of code p) k ≡ Some step
    there = ap (λ ss. slice_get ss k) (steps-at t f num rules numbered p s.block s.place) ∙ map-get (instr_step t f num) s.block.instrs k s.instr s.there

    abbrev before : List Step
    before = take k (steps_of code p)

    abbrev rest : List Step
    rest = drop (suc k) (steps_of code p)

    pub from : drop k (steps_of code p) ≡ step ∷ rest
    from = (drop-at (steps_of code p) k step there).0

    pub split : steps_of code p ≡ before ++ step ∷ rest
    split = (drop-at (steps_of code p) k step there).1

    pub home : slice_index x.order.block_of.items id ≡ p
    home = computed.homes p s.block id s.place (subst (λ i. has i (ids_of s.block.instrs) ≡ true) s.named (has-id s.block.instrs k s.instr s.there))

    -- at the entry

    entry-told : (n : ℕ) → (entry_at x (Some n) id ≡ true) ↔ Live code p (law.Entry (step ∷ rest)) n
    entry-told n =
        let z = tells.entry n p before step rest split in
        let same : row_at x.order.slots x.rows.rows.items n (slice_index x.order.block_of.items id) (entry_rank x.order.slots id) ≡ row_at x.order.slots x.rows.rows.items n p (entry_rank x.order.slots s.instr.id) = ap (λ b. row_at x.order.slots x.rows.rows.items n b (entry_rank x.order.slots id)) home ∙ ap (λ i. row_at x.order.slots x.rows.rows.items n p (entry_rank x.order.slots i)) (sym s.named) in (
          (λ h. same-back code quiet (z.0 (sym same ∙ h))),
          (λ h. same ∙ z.1 (same-forth code quiet h (before, split))),
        )

    exit-told : (n : ℕ) → (exit_at x (Some n) id ≡ true) ↔ Live code p (law.Exit step rest) n
    exit-told n =
        let z = tells.exit n p before step rest split in
        let same : row_at x.order.slots x.rows.rows.items n (slice_index x.order.block_of.items id) (exit_rank x.order.slots id) ≡ row_at x.order.slots x.rows.rows.items n p (exit_rank x.order.slots s.instr.id) = ap (λ b. row_at x.order.slots x.rows.rows.items n b (exit_rank x.order.slots id)) home ∙ ap (λ i. row_at x.order.slots x.rows.rows.items n p (exit_rank x.order.slots i)) (sym s.named) in (
          (λ h. same-back code quiet (z.0 (sym same ∙ h))),
          (λ h. same ∙ z.1 (same-forth code quiet h (before, split))),
        )

    module _ (l : Lane) (still : is_slot l ≡ false) where
      abbrev tag : Option ℕ
      tag = tag_of num (is_proper t) l

      by-number : (n : ℕ) → tag ≡ Some n → LiveByNumber t f num l n
      by-number n e = number-law t f num rules numbered l n still e

      entry : (q : Option ℕ) → tag ≡ q → (entry_at x tag id ≡ true) ↔ LiveAt t f (Entry id) l
      entry None e = (
        (λ h. absurd (let z : false ≡ true = sym (ap (λ q. entry_at x q id) e) ∙ h in cc)),
        (λ h. absurd (let z = entry-numbered t f num rules numbered l id p k s (subst (λ c. LivePlace (is_reserved t) c (from_instr t f id f.blocks) l) (points-are t f num rules numbered) h) in let y : None ≡ Some z.0 = sym e ∙ z.1 in cc)),
      )
      entry (Some n) e =
          let law' = (by-number n e).entry id p k at in
          let told = entry-told n in
          let same = ap (λ q. entry_at x q id) e in (
            (λ h. law'.1 (subst (λ ss. Live code p (law.Entry ss) n) (sym from) (told.0 (sym same ∙ h)))),
            (λ h. same ∙ told.1 (subst (λ ss. Live code p (law.Entry ss) n) from (law'.0 h))),
          )

      exit : is_reserved t l ≡ false → (q : Option ℕ) → tag ≡ q → (exit_at x tag id ≡ true) ↔ LiveAt t f (Exit id) l
      exit free None e = (
        (λ h. absurd (let z : false ≡ true = sym (ap (λ q. exit_at x q id) e) ∙ h in cc)),
        (λ h. absurd (let z = exit-numbered t f num rules numbered l id p k s free (subst (λ c. AtFirst (λ i q. LiveAfter (is_reserved t) c i q l) (from_instr t f id f.blocks)) (points-are t f num rules numbered) h) in let y : None ≡ Some z.0 = sym e ∙ z.1 in cc)),
      )
      exit free (Some n) e =
          let law' = (by-number n e).exit id p k step rest at from in
          let told = exit-told n in
          let same = ap (λ q. exit_at x q id) e in (
            (λ h. law'.1 (told.0 (sym same ∙ h))),
            (λ h. same ∙ told.1 (law'.0 h)),
          )

pub inside-law : InsideLaw
inside-law t f x computed rules last = record {
  ordered = (tells t f x computed rules last).rises;
  entry = λ l still id p k e. entry t f x computed rules last id p k e l still (tag_of (number_in x.lanes) (is_proper t) l) refl;
  exit = λ l still free id p k e. exit t f x computed rules last id p k e l still free (tag_of (number_in x.lanes) (is_proper t) l) refl;
}
