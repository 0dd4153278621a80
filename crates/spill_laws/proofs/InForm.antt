-- Each instruction of a function after a spill keeps the rules and is in lowered form, and so is the function in its form.
use Rattle.std.proofs.Common.{◌≡◌, ◌≤◌, ◌+◌, ◌++◌, ◌∙◌, ◌||◌, not, ℕ, Bool, true, false, List, [], ◌∷◌, Option, Some, None, map, refl, sym, ap, subst, arith}
use Rattle.std.specs.Prelude.{if◌then◌else◌, nat_lt, slice_get}
use Rattle.std.specs.List.{list_all}
use Rattle.std.proofs.lemmas.List.Sums.{sum_by-cons}
use Rattle.target_base.specs.declared.types.ClassId.{ClassId}
use Rattle.target_base.specs.declared.types.Effect.{Effect}
use Rattle.target_base.specs.declared.types.Effect.TheVariants as effects
use Rattle.target_base.specs.declared.types.IndexId.{IndexId}
use Rattle.target_base.specs.declared.types.Reg.{Reg}
use Rattle.target_base.specs.declared.types.Target.{Target}
use Rattle.target_base.specs.Registers.{IsClass, regs_of}
use Rattle.target_base.specs.Rules.{is_phi}
use Rattle.target_base.specs.Storage.{holds_reg}
use Rattle.meaning.specs.Live.{Among as Member, here as first}
use Rattle.mir_func.specs.declared.func.Loc.{Loc}
use Rattle.mir_func.specs.declared.func.Loc.TheVariants.{Fixed, Virtual}
use Rattle.mir_func.specs.declared.func.RegOp.{RegOp}
use Rattle.mir_func.specs.declared.func.Operand.{Operand}
use Rattle.mir_func.specs.declared.func.Operand.TheVariants as operands
use Rattle.mir_func.specs.declared.func.Instr.{Instr}
use Rattle.mir_func.specs.declared.func.Block.{Block}
use Rattle.mir_func.specs.Value.{Function, id_count, id_total}
use Rattle.mir_func.specs.Binding.{class_of, does, effect_of, is_lowered_away, passes, registers}
use Rattle.mir_func.proofs.ByPlace.{place_is}
use Rattle.mir_meaning.specs.declared.Form.TheVariants as forms
use Rattle.mir_meaning.specs.Rules.{V1, V2, V3, V4, V7, V12, index_fits, phi_stands}
use Rattle.instr_effects.proofs.Members.{either-elim, flat-in, left-in, member-elim, member-none, right-in}
use Rattle.live_laws.specs.Effects.Shaped.{AreClasses, IsShaped}
use Rattle.live_laws.proofs.Effects.Blocks.{member-slice, slice-member}
use Rattle.live_laws.proofs.Effects.Lists.{all-of}
use Rattle.live_laws.proofs.Effects.Moving.{some-same}
use Rattle.live_laws.proofs.Effects.Shapes.{index-there}
use Rattle.lowering_laws.specs.Form.{is_lowered}
use Rattle.lowering_laws.specs.Shapes.{IsLowered}
use Rattle.lowering_laws.proofs.Formed.{all-by}
use Rattle.spiller.specs.Setting.{Spilling, plain_definition, plain_use, reload, store}
use Rattle.spiller.specs.Rematerialised.{copy_reading, copy_wish, if_whole, places_of, repeatable_class, repeated, repeated_for, serves}
use Rattle.spiller.specs.Spilled.{Change, change, in_place_of, place_change, setting_of, spilled}
use Rattle.spill_laws.specs.Laws.{AreLowered, HasTinies, IsInForm, KeepsClasses, LiesIn, SpillKeepsLowered, is_placed}
use Rattle.spill_laws.proofs.Beside.{besides_keep_rules}
use Rattle.spill_laws.proofs.Copies.{copies_keep_rules, undefined_keep_rules}
use Rattle.spill_laws.proofs.Kept.{blocks-kept, ids-kept, orderly}
use Rattle.spill_laws.proofs.Opcodes.{repeats-for}
use Rattle.spill_laws.proofs.Outcomes.{Outcome, Passes, Replaces, from_range, goes, instrs-of, passed, places-whole, reloaded_on, repeats, replaced, seated, stays, stored_on, to_range, undefined, within}
use Rattle.spill_laws.proofs.Ranges.{Has, all-instrs, classes-known, classes-stay, repeatable-known}
use Rattle.spill_laws.proofs.Repeated.{repeated-good}
use Rattle.spill_laws.proofs.Stays.{stays_keep_rules}
use Rattle.spill_laws.proofs.Tinies.{passes_keep_rules}
use Rattle.spill_laws.proofs.TinyForm.{tinies_keep_rules}

-- ids

count-within : (x : ℕ) (bs : List Block) (b : Block) → Member b bs → id_count x b.instrs ≤ id_total x bs
count-within x [] b m = absurd (member-none b m)
count-within x (d ∷ bs) b m =
    let total : id_total x (d ∷ bs) ≡ id_count x d.instrs + id_total x bs = sum_by-cons (λ (y : Block). id_count x y.instrs) d bs in
    member-elim b d bs (λ e. let w : id_count x b.instrs ≡ id_count x d.instrs = ap (λ (y : Block). id_count x y.instrs) e in omega (arith, total, w)) (λ k. let w = count-within x bs b k in omega (arith, total, w)) m

-- instructions of a block that have one id are one
pub one-instr : (is : List Instr) → ((x : ℕ) → id_count x is ≤ 1) → (i j : Instr) → Member i is → Member j is → i.id ≡ j.id → i ≡ j
one-instr is once i j mi mj same =
    let a = member-slice i is mi in
    let b = member-slice j is mj in
    let place : a.0 ≡ b.0 = sym (place_is j.id a.0 i is a.1 same (once j.id)) ∙ place_is j.id b.0 j is b.1 refl (once j.id) in
    some-same i j (sym a.1 ∙ (ap (slice_get is) place ∙ b.1))

-- what the form says doesn't depend on ids, flags and tails
same-form : (t : Target) (g : Function) (i j : Instr) → i.op ≡ j.op → i.operands ≡ j.operands → IsInForm t g i → IsInForm t g j
unfolding V1 V2 V3 V4 V12
same-form t g i j op are w = record {
  shaped = record { operands = one; widths = two; classes = three; indexes = four; definitions = twelve };
  opcode = ap (λ x. does (λ e. not (is_lowered_away e)) t (record i { op = x })) (sym op) ∙ w.opcode;
  lowered = (λ k. is_lowered t (record j { op = sym op k; operands = sym are k })) ∙ w.lowered;
}
  where
    one : V1 t g j ≡ true
    one = (λ k. V1 t g (record j { op = sym op k; operands = sym are k })) ∙ w.shaped.operands

    two : V2 t g j ≡ true
    two = (λ k. V2 t g (record j { op = sym op k; operands = sym are k })) ∙ w.shaped.widths

    three : V3 g j ≡ true
    three = (λ k. V3 g (record j { op = sym op k; operands = sym are k })) ∙ w.shaped.classes

    four : V4 t g j ≡ true
    four = (λ k. V4 t g (record j { op = sym op k; operands = sym are k })) ∙ w.shaped.indexes

    twelve : V12 t forms.Source g j ≡ true
    twelve = (λ k. V12 t forms.Source g (record j { op = sym op k; operands = sym are k })) ∙ w.shaped.definitions

no-phi : (t : Target) (i : Instr) → does (λ e. not (is_lowered_away e)) t i ≡ true → does is_phi t i ≡ false
no-phi t i h = go (effect_of t i) h
  where
    by : (e : Effect) → not (is_lowered_away e) ≡ true → is_phi e ≡ false
    by effects.Phi h = absurd (cc)
    by e h = refl

    go : (q : Option Effect) → passes (λ e. not (is_lowered_away e)) q ≡ true → passes is_phi q ≡ false
    go None h = refl
    go (Some e) h = by e h

-- what is repeated for a copy goes to a register of its class
record Holds (t : Target) (l : Loc) (q : Option ClassId) : Type 0 where
  pub reg : Reg
  pub class : ClassId
  pub at : l ≡ Fixed reg
  pub is : q ≡ Some class
  pub holds : holds_reg (regs_of t class) reg ≡ true

copy-holds : (t : Target) (x : Option IndexId) (l : Loc) (q : Option ClassId) → serves t (if_whole x (copy_wish l)) q ≡ true → Holds t l q
copy-holds t None (Fixed r) (Some k) h = record { reg = r; class = k; at = refl; is = refl; holds = h }
copy-holds t None (Fixed r) None h = absurd (cc)
copy-holds t None (Virtual v) (Some k) h = absurd (cc)
copy-holds t None (Virtual v) None h = absurd (cc)
copy-holds t (Some y) l (Some k) h = absurd (cc)
copy-holds t (Some y) l None h = absurd (cc)

-- where the instructions of a place get tinies, and these have their classes
abbrev pub Tinied : Spilling → Function → ℕ → List Instr → Type 0
Tinied s g c p = ((i : Instr) → Member i p → does is_placed s.target i ≡ true) → Has g c (map (λ (x : Option ClassId × ℕ). x.0) (place_change s c p).tinies) → HasTinies s g c p

module _ (s : Spilling) (g : Function) (keeps : KeepsClasses s g) (classes : AreClasses s.target s.func) (rules : (b : Block) (j : Instr) → Member b s.func.blocks → Member j b.instrs → IsShaped s.target s.func j) where
  abbrev t : Target
  t = s.target

  abbrev Good : Instr → Type 0
  Good = IsInForm s.target g

  none-good : (x : Instr) → Member x [] → Good x
  none-good x m = absurd (member-none x m)

  one-good : (i : Instr) → Good i → (x : Instr) → Member x (i ∷ []) → Good x
  one-good i w x m = member-elim x i [] (λ e. subst Good (sym e) w) (λ k. absurd (member-none x k)) m

  two-good : (i j : Instr) → Good i → Good j → (x : Instr) → Member x (i ∷ j ∷ []) → Good x
  two-good i j w v x m = member-elim x i (j ∷ []) (λ e. subst Good (sym e) w) (one-good j v x) m

  replaced-good : (i j : Instr) → IsShaped t s.func i → Replaces s i j → Good j
  replaced-good i j shaped (from_range {d} {o} e are p q) = (copies_keep_rules s g keeps classes i d o shaped e are).0 p
  replaced-good i j shaped (to_range {d} {o} e are p q) = (copies_keep_rules s g keeps classes i d o shaped e are).1 q
  replaced-good i j shaped (undefined {o} e are p) = undefined_keep_rules s g keeps classes i o shaped are p

  repeated-for-copy : (i x : Instr) (d o : RegOp) → IsShaped t s.func i → effect_of t i ≡ Some effects.Copy → i.operands ≡ operands.Reg d ∷ operands.Reg o ∷ [] → repeated_for s (copy_reading s i d o) ≡ Some x → Good (repeated x (plain_definition d.loc d.index))
  repeated-for-copy i x d o shaped e are r =
      let w = repeats-for s (copy_reading s i d o) x r in
      let v = copy-holds t o.index d.loc (repeatable_class t x) w.serving in
      let fits : index_fits t s.func d.loc d.index ≡ true = index-there t s.func i shaped d (subst (λ os. Member d (registers os)) (sym are) first) in
      repeated-good t s.func g x (rules w.block x w.there w.inside) v.class d.loc d.index (lies d.loc d.index v.reg v.class v.at fits (repeatable-known t x v.class v.is) v.holds) v.is w.constant
    where
      lies : (l : Loc) (y : Option IndexId) (r : Reg) (k : ClassId) → l ≡ Fixed r → index_fits t s.func l y ≡ true → IsClass t k → holds_reg (regs_of t k) r ≡ true → LiesIn t g k l y
      lies l y r k at fits known holds = subst (λ m. LiesIn t g k m y) (sym at) (record { known = known; class = refl; index = subst (λ m. index_fits t s.func m y ≡ true) at fits; lies = holds })

  passed-good : (c : ℕ) (i : Instr) (k : Option ClassId) (from to : List Operand) → IsShaped t s.func i → Passes s i k from to → class_of g c ≡ k
      → Good (reload t k (plain_definition (Virtual c) None) from) × Good (store t k (plain_use (Virtual c) None) to)
  passed-good c i k from to shaped (within {d} {o} e are p q) class = (passes_keep_rules s g keeps classes i shaped c).0 d o e are p q class
  passed-good c i k from to shaped (stored_on {o} {slot} e are p) class = (passes_keep_rules s g keeps classes i shaped c).1 o slot e are p class
  passed-good c i k from to shaped (reloaded_on {o} {slot} e are p) class = (passes_keep_rules s g keeps classes i shaped c).2 o slot e are p class

  nothing : (c : ℕ) → c ≡ c + 0
  nothing c = omega arith

  -- what becomes of a place
  place-good : (n c : ℕ) (p : List Instr) (y : Change) → ((i : Instr) → Member i p → IsShaped t s.func i) → ((i : Instr) → Member i p → does (λ e. not (is_lowered_away e)) t i ≡ true) → ((i : Instr) → Member i p → is_lowered t i ≡ true)
      → Tinied s g c p → Has g c (map (λ (x : Option ClassId × ℕ). x.0) y.tinies) → Outcome s n c p y → (x : Instr) → Member x (instrs-of y) → Good x
  place-good n c p y shaped opcodes formed here has (stays {i} k) = one-good i (record { shaped = stays_keep_rules t s.func g i keeps (shaped i first) (opcodes i first); opcode = opcodes i first; lowered = formed i first })
  place-good n c p y shaped opcodes formed here has (goes k) = none-good
  place-good n c p y shaped opcodes formed here has (replaced {i} {j} k) = one-good (in_place_of i j) (same-form t g j (in_place_of i j) refl refl (replaced-good i j (shaped i first) k))
  place-good n c p y shaped opcodes formed here has (repeats {i} {x} {d} {o} e are a b r) = one-good (repeated x (plain_definition d.loc d.index)) (repeated-for-copy i x d o (shaped i first) e are r)
  place-good n c p y shaped opcodes formed here has (passed {i} {k} {from} {to} w) =
      let v = passed-good c i k from to (shaped i first) w (ap (class_of g) (nothing c) ∙ has 0 k refl) in
      let j = reload t k (plain_definition (Virtual c) None) from in
      two-good (in_place_of i j) (store t k (plain_use (Virtual c) None) to) (same-form t g j (in_place_of i j) refl refl v.0) v.1
  place-good n c p y shaped opcodes formed here has (seated placed) = λ x m.
      let h = here placed has in
      let beside = besides_keep_rules s g c p keeps classes rules shaped placed formed has x in
      either-elim x y.before (y.own ++ y.behind)
      (λ k. beside (left-in x y.before y.behind k))
      (λ k. either-elim x y.own y.behind (tinies_keep_rules s g c p h x) (λ q. beside (right-in x y.before y.behind q)) k) m

-- the instructions of a place are the block's
pub place-in : (s : Spilling) (b : Block) (p : List Instr) → Member p (places_of s.target b) → (i : Instr) → Member i p → Member i b.instrs
place-in s b p mp i mi = subst (Member i) (places-whole s.target b.instrs) (flat-in (λ q. q) i p (places_of s.target b) mp mi)

module _ (s : Spilling) (low : IsLowered s.target s.func) (formed : AreLowered s.target s.func) where
  abbrev after : Function
  after = spilled s

  pub in-lowered-form : (b : Block) → Member b s.func.blocks → (i : Instr) → Member i b.instrs → is_lowered s.target i ≡ true
  in-lowered-form b mb i mi = all-of (is_lowered s.target) i b.instrs mi (all-of (λ (d : Block). list_all (is_lowered s.target) d.instrs) b s.func.blocks mb formed)

  pub once : (b : Block) → Member b s.func.blocks → (x : ℕ) → id_count x b.instrs ≤ 1
  once b mb x = let w = count-within x s.func.blocks b mb in let v = at-most (nat_lt x s.func.next_id) (low.function.once x) in omega (arith, w, v)
    where
      at-most : (y : Bool) → id_total x s.func.blocks ≤ (if y then 1 else 0) → id_total x s.func.blocks ≤ 1
      at-most true e = e
      at-most false e = omega (arith, e)

  -- what holds of what becomes of each place holds of all instructions
  pub each-place : (P : Instr → Type 0) → ((x : Instr) (n : ℕ) → P x → P (record x { id = n }))
      → ((b : Block) → Member b s.func.blocks → (n c : ℕ) (p : List Instr) → ((i : Instr) → Member i p → Member i b.instrs) → Tinied s after c p → Has after c (map (λ (x : Option ClassId × ℕ). x.0) (change s n c p).tinies) → Outcome s n c p (change s n c p) → (x : Instr) → Member x (instrs-of (change s n c p)) → P x)
      → (d : Block) (x : Instr) → Member d after.blocks → Member x d.instrs → P x
  each-place P ids h = all-instrs s P ids (λ b mb p mp n c further has.
      let there = place-in s b p mp in
      h b mb n c p there
      (λ placed tinies. record {
        keeps = classes-stay s;
        classes = low.rules.classes;
        further = further;
        shaped = λ i mi. low.rules.shaped b i mb (there i mi);
        placed = placed;
        lowered = λ i mi. in-lowered-form b mb i (there i mi);
        once = λ i j mi mj. one-instr b.instrs (once b mb) i j (there i mi) (there j mj);
        tinies = tinies;
      })
      has (orderly s low b mb p mp n c))

  pub each-in-form : (d : Block) (x : Instr) → Member d after.blocks → Member x d.instrs → IsInForm s.target after x
  each-in-form = each-place (IsInForm s.target after) (λ x n w. same-form s.target after x (record x { id = n }) refl refl w) (λ b mb n c p there.
      place-good s after (classes-stay s) low.rules.classes low.rules.shaped n c p (change s n c p)
      (λ i mi. low.rules.shaped b i mb (there i mi)) (λ i mi. low.lowered b i mb (there i mi)) (λ i mi. in-lowered-form b mb i (there i mi)))

  seven : (k : ℕ) (b : Block) (j : ℕ) (i : Instr) → slice_get after.blocks k ≡ Some b → slice_get b.instrs j ≡ Some i → V7 s.target forms.Source after k b j i ≡ true
  unfolding V7
  seven k b j i e q = ap (λ x. not x || phi_stands s.target after k b j i) (no-phi s.target i (each-in-form b i (slice-member after.blocks k b e) (slice-member b.instrs j i q)).opcode)

  pub spill-lowered : IsLowered s.target after × AreLowered s.target after
  spill-lowered =
      let blocks = blocks-kept s low in (
        record {
          function = ids-kept s low;
          rules = record {
            classes = classes-known s low.rules.classes (orderly s low);
            shaped = λ b i mb mi. (each-in-form b i mb mi).shaped;
            blocks = blocks.five;
            phis = seven;
          };
          lowered = λ b i mb mi. (each-in-form b i mb mi).opcode;
          terminators = blocks.eight;
          successors = blocks.nine;
        },
        all-by (λ (b : Block). list_all (is_lowered s.target) b.instrs) after.blocks (λ b mb. all-by (is_lowered s.target) b.instrs (λ i mi. (each-in-form b i mb mi).lowered)),
      )

pub spill_keeps_lowered : SpillKeepsLowered
spill_keeps_lowered t f g slots new v made low formed z = subst (λ h. IsLowered t h × AreLowered t h) (sym z.func) (spill-lowered (setting_of t f slots v z.facts) low formed)
