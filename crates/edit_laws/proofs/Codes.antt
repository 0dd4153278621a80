-- The code over numbered lanes of an edited function beside that of the function.
use Rattle.std.proofs.Common.{◌≡◌, ◌∷◌, ◌++◌, ◌∙◌, ℕ, zero, suc, Bool, false, cond, List, [], Option, Some, None, refl, sym, ap, subst, map, flat_map, filter_map}
use Rattle.std.specs.Prelude.{nat_eq, option_map, slice_get}
use Rattle.target_base.specs.declared.types.Effect.{Effect}
use Rattle.target_base.specs.declared.types.Effect.TheVariants as effects
use Rattle.target_base.specs.declared.types.OpId.{OpId}
use Rattle.target_base.specs.declared.types.Role.{Role}
use Rattle.target_base.specs.declared.types.Target.{Target}
use Rattle.target_base.specs.Roles.{is_silent}
use Rattle.target_base.specs.Rules.{is_phi}
use Rattle.meaning.specs.Lanes.{Writes, Reads}
use Rattle.meaning.specs.Live.{Among, here, there}
use Rattle.mir_func.specs.declared.func.Block.{Block}
use Rattle.mir_func.specs.declared.func.Gap.{Gap}
use Rattle.mir_func.specs.declared.func.Instr.{Instr}
use Rattle.mir_func.specs.declared.func.Operand.{Operand}
use Rattle.mir_func.specs.declared.func.Operand.TheVariants as operands
use Rattle.mir_func.specs.declared.func.RegOp.{RegOp}
use Rattle.mir_func.specs.Value.{Function}
use Rattle.mir_func.specs.Edits.{block_place, made}
use Rattle.mir_func.specs.Binding.{definitions, does, effect_of, is_early_clobber, is_terminator, roles_of}
use Rattle.mir_meaning.specs.Items.{Value, implicit_definitions, moved, undefined}
use Rattle.mir_meaning.specs.Paths.{Body, Step, Into, use_of, is_written}
use Rattle.instr_effects.specs.Acts.{acts_of, call_writes, counted_acts, effect_acts, effect_reads, entered_reads, entered_writes, filled_whole, read_owners, silent_acts, stored}
use Rattle.instr_effects.specs.Owners.{owners_read}
use Rattle.instr_effects.specs.Ends.{end_uses, pairs_behind}
use Rattle.instr_effects.specs.Steps.{Numbering, act_readings, act_writings, phi_read_of}
use Rattle.live_lanes.specs.Coded.{bodies_from, entries, last_at, lanes_at}
use Rattle.live_lanes.specs.Doing.{doing_of, lane_code}
use Rattle.live_lanes.specs.Entering.{EnteredStep}
use Rattle.live_lanes.specs.Flowing.{edge_places}
use Rattle.live_lanes.specs.Ordered.{place_of}
use Rattle.edit_laws.specs.Edits.{Put, Replace, Erase, edited, with_op, Stands, KeepsWays}
use Rattle.edit_laws.specs.Steps.{AreAlike, IsApart, AreSteps, no_steps, step_stays, step_goes, step_comes, AreCodes}
use Rattle.edit_laws.specs.Codes.{step_in, NamesTold, TellsEdit, CodesLaw}
use Rattle.edit_laws.proofs.Aligned.{AreInstrs, no_instrs, instr_stays, instr_changes, instr_goes, instr_comes, AreBlocks, no_blocks, block_stays}
use Rattle.edit_laws.proofs.Placed.{GoesFrom, ComesInto, BothAt, blocks-placed, put-blocks, Named, erase-blocks, Becomes, change-blocks}
use Rattle.edit_laws.proofs.Edited.{Never, NeverBoth}
use Rattle.edit_laws.proofs.Shell.{all-same, beside-same, lanes, results-same, silent-reads, silent-writes, sources, undef-same, values-same}

-- what is entered of an instruction depends on the function by the classes of its ranges alone

module _ (t : Target) (f g : Function) (same : f.classes ≡ g.classes) where
  whole-same : (os : List Operand) → filled_whole t f os ≡ filled_whole t g os
  whole-same (operands.Reg d ∷ os) = ap (undefined false) (lanes t f g same d)
  whole-same _ = refl

  stored-same : (os : List Operand) → stored t f os ≡ stored t g os
  stored-same (operands.Reg o ∷ operands.Stack s ∷ k ∷ os) = λ i. moved false (beside-same t f g same o s k i) (sources t f g same o i)
  stored-same _ = refl

  silent-acts : (e : Effect) (early : Bool) (os : List Operand) → silent_acts t f e early os ≡ silent_acts t g e early os
  silent-acts effects.Phi early os = undef-same t f g same os
  silent-acts effects.RegSequence early os = whole-same os
  silent-acts effects.InsertSubreg early os = whole-same os
  silent-acts effects.Spill early os = stored-same os
  silent-acts effects.Copy early os = silent-writes t f g same effects.Copy early os
  silent-acts effects.ImplicitDef early os = silent-writes t f g same effects.ImplicitDef early os
  silent-acts effects.Const early os = silent-writes t f g same effects.Const early os
  silent-acts effects.Addr early os = silent-writes t f g same effects.Addr early os
  silent-acts effects.Reload early os = silent-writes t f g same effects.Reload early os
  silent-acts _ early os = refl

  counted-acts : (e : Effect) (rs : List Role) (os : List Operand) → counted_acts t f e rs os ≡ counted_acts t g e rs os
  counted-acts e rs os = λ k. results-same t f g same 0 (definitions rs os) k ++ (undefined false (all-same t f g same (implicit_definitions os) k) ++ call_writes t e os)

  effect-acts : (e : Effect) (rs : List Role) (os : List Operand) → effect_acts t f e rs os ≡ effect_acts t g e rs os
  effect-acts e rs os = λ k. cond (is_silent e) (silent-acts e (is_early_clobber rs) os k) (counted-acts e rs os k)

  entered-writes : (i : Instr) → entered_writes t f i ≡ entered_writes t g i
  unfolding entered_writes
  entered-writes i = go (effect_of t i)
    where
      go : (o : Option Effect) → elim o as (λ o. Writes) [ None ↦ [] | Some e ↦ effect_acts t f e (roles_of t i) i.operands ] ≡ elim o as (λ o. Writes) [ None ↦ [] | Some e ↦ effect_acts t g e (roles_of t i) i.operands ]
      go None = refl
      go (Some e) = effect-acts e (roles_of t i) i.operands

  entered-reads : (i : Instr) → entered_reads t f i ≡ entered_reads t g i
  unfolding entered_reads
  entered-reads i = go (effect_of t i)
    where
      go : (o : Option Effect) → elim o as (λ o. Reads) [ None ↦ [] | Some e ↦ effect_reads t f e i ] ≡ elim o as (λ o. Reads) [ None ↦ [] | Some e ↦ effect_reads t g e i ]
      go None = refl
      go (Some e) = λ k. cond (is_silent e) (silent-reads t f g same e i.operands k) (map (λ (v : Value). v.0) (values-same t f g same e i k))

  pub doing-same : (num : Numbering) (i : Instr) → doing_of t f num i ≡ doing_of t g num i
  doing-same num i =
      λ k. (record { id = i.id; reads = filter_map num (read_owners (entered-reads i k)) ++ act_readings num (acts_of (entered-writes i k)); writes = act_writings num (acts_of (entered-writes i k)); leaves = does is_terminator t i }, map (λ (p : RegOp × ℕ). (p.1, filter_map num (owners_read (sources t f g same p.0 k)))) (end_uses t i))

-- an instruction that is no phi reads nothing at the ends of blocks
pub no-end : (t : Target) (f : Function) (num : Numbering) (i : Instr) → does is_phi t i ≡ false → (doing_of t f num i).1 ≡ []
no-end t f num i e = ap (λ u. map (phi_read_of t f num) (cond u (pairs_behind i.operands) [])) e

module _ (t : Target) (f g : Function) (same : f.classes ≡ g.classes) (num : Numbering) (told : ℕ → Bool) (Goes Comes : Instr → Type 0) (Both : Instr → Instr → Type 0) where
  -- what comes, goes and changes, by numbers
  pub record IsFit : Type 0 where
    pub goes : (i : Instr) → Goes i → (does is_phi t i ≡ false) × IsApart told (step_in t f num i)
    pub comes : (j : Instr) → Comes j → (does is_phi t j ≡ false) × IsApart told (step_in t g num j)
    pub both : (i j : Instr) → Both i j → (does is_phi t i ≡ false) × (does is_phi t j ≡ false) × AreAlike told (step_in t f num i) (step_in t g num j)

  module _ (fit : IsFit) where
    stay-alike : (i : Instr) → ((l a : ℕ) → told l ≡ false → use_of l (step_in t f num i) ≡ Into a → told a ≡ false) → AreAlike told (step_in t f num i) (step_in t g num i)
    stay-alike i apart = record {
      id = refl;
      leaves = refl;
      used = λ l o k. use_of l (doing-same t f g same num i k).0;
      written = λ l o k. is_written l (doing-same t f g same num i k).0;
      apart = apart;
    }

    steps-beside : {is js : List Instr} → AreInstrs Goes Comes Both is js → ((i : Instr) → Among i is → (l a : ℕ) → told l ≡ false → use_of l (step_in t f num i) ≡ Into a → told a ≡ false) → AreSteps told (map (step_in t f num) is) (map (step_in t g num) js)
    steps-beside no_instrs apart = no_steps
    steps-beside (instr_stays {i = i} a) apart = step_stays (stay-alike i (apart i here)) (steps-beside a (λ x m. apart x (there m)))
    steps-beside (instr_changes {i = i} {j = j} h a) apart = step_stays (fit.both i j h).2 (steps-beside a (λ x m. apart x (there m)))
    steps-beside (instr_goes {i = i} h a) apart = step_goes (fit.goes i h).1 (steps-beside a (λ x m. apart x (there m)))
    steps-beside (instr_comes {j = j} h a) apart = step_comes (fit.comes j h).1 (steps-beside a apart)

    -- blocks keep their places
    places-same : (n : ℕ) {bs cs : List Block} → AreBlocks Goes Comes Both bs cs → place_of n bs ≡ place_of n cs
    places-same n no_blocks = refl
    places-same n (block_stays {bs = bs} {cs = cs} number successors a rest) = λ k. cond (nat_eq (number k) n) (Some 0) (option_map (λ x. suc x) (places-same n rest k))

    -- phis read the same at the ends of blocks
    ends-in : (place : ℕ → Option ℕ) (b : ℕ) {is js : List Instr} → AreInstrs Goes Comes Both is js → flat_map (λ (e : EnteredStep). flat_map (lanes_at place b) e.1) (map (doing_of t f num) is) ≡ flat_map (λ (e : EnteredStep). flat_map (lanes_at place b) e.1) (map (doing_of t g num) js)
    ends-in place b no_instrs = refl
    ends-in place b (instr_stays {i = i} a) = λ k. flat_map (lanes_at place b) (doing-same t f g same num i k).1 ++ ends-in place b a k
    ends-in place b (instr_changes {i = i} {j = j} h a) =
        λ k. (ap (flat_map (lanes_at place b)) (no-end t f num i (fit.both i j h).0 ∙ sym (no-end t g num j (fit.both i j h).1))) k ++ ends-in place b a k
    ends-in place b (instr_goes {i = i} {is = is} h a) =
        (λ k. flat_map (lanes_at place b) (no-end t f num i (fit.goes i h).0 k) ++ flat_map (λ (e : EnteredStep). flat_map (lanes_at place b) e.1) (map (doing_of t f num) is)) ∙ ends-in place b a
    ends-in place b (instr_comes {j = j} {js = js} h a) =
        ends-in place b a ∙ sym (λ k. flat_map (lanes_at place b) (no-end t g num j (fit.comes j h).0 k) ++ flat_map (λ (e : EnteredStep). flat_map (lanes_at place b) e.1) (map (doing_of t g num) js))

    lasts-same : (place : ℕ → Option ℕ) (b : ℕ) {bs cs : List Block} → AreBlocks Goes Comes Both bs cs → last_at place (entries (doing_of t f num) bs) b ≡ last_at place (entries (doing_of t g num) cs) b
    lasts-same place b no_blocks = refl
    lasts-same place b (block_stays number successors a rest) = λ k. ends-in place b a k ++ lasts-same place b rest k

    module _ (aligned : AreBlocks Goes Comes Both f.blocks g.blocks) (apart : (b : Block) (i : Instr) → Among b f.blocks → Among i b.instrs → (l a : ℕ) → told l ≡ false → use_of l (step_in t f num i) ≡ Into a → told a ≡ false) where
      abbrev first-place : ℕ → Option ℕ
      first-place n = place_of n f.blocks

      abbrev second-place : ℕ → Option ℕ
      second-place n = place_of n g.blocks

      same-place : first-place ≡ second-place
      same-place = λ k. λ n. places-same n aligned k

      last-same : (n : ℕ) → last_at first-place (entries (doing_of t f num) f.blocks) n ≡ last_at second-place (entries (doing_of t g num) g.blocks) n
      last-same n = lasts-same first-place n aligned ∙ ap (λ p. last_at p (entries (doing_of t g num) g.blocks) n) same-place

      -- a block and its counterpart
      pub record BodiesBeside (x y : Option Body) : Type 0 where
        pub steps : AreSteps told (elim x as (λ o. List Step) [ None ↦ [] | Some d ↦ d.steps ]) (elim y as (λ o. List Step) [ None ↦ [] | Some d ↦ d.steps ])
        pub last : elim x as (λ o. List ℕ) [ None ↦ [] | Some d ↦ d.last ] ≡ elim y as (λ o. List ℕ) [ None ↦ [] | Some d ↦ d.last ]
        pub exits : elim x as (λ o. List ℕ) [ None ↦ [] | Some d ↦ d.exits ] ≡ elim y as (λ o. List ℕ) [ None ↦ [] | Some d ↦ d.exits ]

      bodies-beside : (n : ℕ) {bs cs : List Block} → AreBlocks Goes Comes Both bs cs → ((b : Block) → Among b bs → Among b f.blocks) → (k : ℕ) → BodiesBeside (slice_get (bodies_from (doing_of t f num) first-place f.blocks n bs) k) (slice_get (bodies_from (doing_of t g num) second-place g.blocks n cs) k)
      bodies-beside n no_blocks sub k = record { steps = no_steps; last = refl; exits = refl }
      bodies-beside n (block_stays {b = b} number successors a rest) sub zero = record {
        steps = steps-beside a (λ i m. apart b i (sub b here) m);
        last = last-same n;
        exits = λ k. edge_places (same-place k) (successors k);
      }
      bodies-beside n (block_stays number successors a rest) sub (suc k) = bodies-beside (suc n) rest (λ d m. sub d (there m)) k

      pub lane-codes : AreCodes told (lane_code t f num) (lane_code t g num)
      lane-codes = record {
        steps = λ k. (bodies-beside 0 aligned (λ b m. m) k).steps;
        last = λ k. (bodies-beside 0 aligned (λ b m. m) k).last;
        exits = λ k. (bodies-beside 0 aligned (λ b m. m) k).exits;
      }

-- each edit

apart-of : (told : ℕ → Bool) (s : Step) → s.leaves ≡ false → NamesTold told s → IsApart told s
apart-of told s e h = record { leaves = e; unused = h.unused; unwritten = h.unwritten }

module _ (t : Target) (f : Function) (num : Numbering) (told : ℕ → Bool) where
  module _ (gap : Gap) (op : OpId) (os : List Operand) (keeps : KeepsWays t f (Put gap op os)) (tells : TellsEdit told t f num (Put gap op os)) where
    abbrev put-in : Function
    put-in = edited f (Put gap op os)

    abbrev IsNew : Instr → Type 0
    IsNew j = j ≡ made f.next_id op os

    put-step : (j : Instr) → IsNew j → step_in t f num (made f.next_id op os) ≡ step_in t put-in num j
    put-step j e = (λ k. (doing-same t f put-in refl num (made f.next_id op os) k).0) ∙ ap (step_in t put-in num) (sym e)

    put-comes : (j : Instr) → ComesInto Never IsNew NeverBoth put-in.blocks j → (does is_phi t j ≡ false) × IsApart told (step_in t put-in num j)
    put-comes j z = (ap (does is_phi t) z.3 ∙ keeps.0, apart-of told (step_in t put-in num j) (ap (does is_terminator t) z.3 ∙ keeps.1) (subst (NamesTold told) (put-step j z.3) tells.instr))

    put-codes : AreCodes told (lane_code t f num) (lane_code t put-in num)
    put-codes =
        lane-codes t f put-in refl num told (GoesFrom Never IsNew NeverBoth f.blocks) (ComesInto Never IsNew NeverBoth put-in.blocks) (BothAt Never IsNew NeverBoth f.blocks put-in.blocks)
        (record { goes = λ i z. absurd z.3; comes = put-comes; both = λ i j z. absurd z.6 })
        (blocks-placed Never IsNew NeverBoth (put-blocks Never IsNew NeverBoth (made f.next_id op os) refl gap.before (block_place gap.block f.blocks) f.blocks))
        tells.copied

  module _ (id : ℕ) (keeps : KeepsWays t f (Erase id)) (tells : TellsEdit told t f num (Erase id)) where
    abbrev cut-in : Function
    cut-in = edited f (Erase id)

    abbrev Gone : Instr → Type 0
    Gone = Named Never NeverBoth id

    cut-goes : (i : Instr) → GoesFrom Gone Never NeverBoth f.blocks i → (does is_phi t i ≡ false) × IsApart told (step_in t f num i)
    cut-goes i z =
        let stands : Stands f id z.0 i = record { block = z.1; instr = z.2; named = z.3 } in
        ((keeps z.0 i stands).0, apart-of told (step_in t f num i) (keeps z.0 i stands).1 (tells.instr z.0 i stands))

    cut-codes : AreCodes told (lane_code t f num) (lane_code t cut-in num)
    cut-codes =
        lane-codes t f cut-in refl num told (GoesFrom Gone Never NeverBoth f.blocks) (ComesInto Gone Never NeverBoth cut-in.blocks) (BothAt Gone Never NeverBoth f.blocks cut-in.blocks)
        (record { goes = cut-goes; comes = λ j z. absurd z.3; both = λ i j z. absurd z.6 })
        (blocks-placed Gone Never NeverBoth (erase-blocks Never NeverBoth id f.blocks))
        tells.copied

  module _ (id : ℕ) (op : OpId) (os : List Operand) (keeps : KeepsWays t f (Replace id op os)) (tells : TellsEdit told t f num (Replace id op os)) where
    abbrev new-in : Function
    new-in = edited f (Replace id op os)

    abbrev Turns : Instr → Instr → Type 0
    Turns = Becomes Never Never id (with_op op os)

    new-step : (i j : Instr) → j ≡ with_op op os i → step_in t f num (with_op op os i) ≡ step_in t new-in num j
    new-step i j e = (λ k. (doing-same t f new-in refl num (with_op op os i) k).0) ∙ ap (step_in t new-in num) (sym e)

    new-both : (i j : Instr) → BothAt Never Never Turns f.blocks new-in.blocks i j → (does is_phi t i ≡ false) × (does is_phi t j ≡ false) × AreAlike told (step_in t f num i) (step_in t new-in num j)
    new-both i j z =
        let stands : Stands f id z.0 i = record { block = z.2; instr = z.4; named = z.6.0 } in
        ((keeps z.0 i stands).0, ap (does is_phi t) z.6.1 ∙ (keeps z.0 i stands).1, subst (AreAlike told (step_in t f num i)) (new-step i j z.6.1) (tells.instr z.0 i stands))

    new-codes : AreCodes told (lane_code t f num) (lane_code t new-in num)
    new-codes =
        lane-codes t f new-in refl num told (GoesFrom Never Never Turns f.blocks) (ComesInto Never Never Turns new-in.blocks) (BothAt Never Never Turns f.blocks new-in.blocks)
        (record { goes = λ i z. absurd z.3; comes = λ j z. absurd z.3; both = new-both })
        (blocks-placed Never Never Turns (change-blocks Never Never id (with_op op os) f.blocks))
        tells.copied

pub codes-law : CodesLaw
codes-law t f (Put gap op os) num told keeps tells = put-codes t f num told gap op os keeps tells
codes-law t f (Replace id op os) num told keeps tells = new-codes t f num told id op os keeps tells
codes-law t f (Erase id) num told keeps tells = cut-codes t f num told id keeps tells
