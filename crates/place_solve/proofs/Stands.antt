-- Instructions of a function with distinct ids stand where their ids say; those of a valid function have known opcodes.
use Rattle.std.proofs.Common.{◌≡◌, ◌∙◌, ◌+◌, ◌<◌, ◌≤◌, ℕ, zero, suc, Bool, true, false, cond, not, List, [], ◌∷◌, Option, Some, None, refl, ap, subst, length, arith, eqb, eq-eqb}
use Rattle.std.specs.Prelude.{nat_lt, option_map, slice_get}
use Rattle.std.specs.Option.{option_or}
use Rattle.std.proofs.lemmas.Bool.{lt-ltb, le-ltb}
use Rattle.std.proofs.lemmas.List.Sums.{sum_by-cons}
use Rattle.target_base.specs.declared.types.OpcodeDesc.{OpcodeDesc}
use Rattle.target_base.specs.declared.types.Target.{Target}
use Rattle.mir_func.specs.declared.func.Block.{Block}
use Rattle.mir_func.specs.declared.func.Instr.{Instr}
use Rattle.mir_func.specs.Edits.{instr_place}
use Rattle.mir_func.specs.Value.{Function, id_count, id_total}
use Rattle.mir_meaning.specs.declared.Form.{Form}
use Rattle.mir_func.specs.Binding.{known_opcode}
use Rattle.mir_meaning.specs.Points.{has_instr}
use Rattle.mir_meaning.specs.Valid.{block_fault, blocks_fault, fault_at, fault_in, instr_fault, instrs_fault, least, shape_fault}
use Rattle.live_laws.specs.Effects.Coded.{one_on, spot_in}
use Rattle.place_solve.specs.Told.{Seated}

same : {X : Type 0} (x y : X) → Some x ≡ Some y → x ≡ y
same x y e = cc

-- ids

abbrev one_id : ℕ → Instr → ℕ
one_id id x = cond (eqb x.id id) 1 0

split : (id : ℕ) (i : Instr) (is : List Instr) → id_count id (i ∷ is) ≡ one_id id i + id_count id is
split id i is = sum_by-cons (one_id id) i is

counted : (id : ℕ) (is : List Instr) (j : ℕ) (i : Instr) → slice_get is j ≡ Some i → i.id ≡ id → 1 ≤ id_count id is
counted id [] j i e h = absurd (cc)
counted id (x ∷ is) zero i e h =
    let one : one_id id x ≡ 1 = ap (λ b. cond {A = ℕ} b 1 0) (eq-eqb x.id id (ap (λ y. y.id) (same x i e) ∙ h)) in
    omega (arith, split id x is, one)
counted id (x ∷ is) (suc j) i e h = omega (arith, split id x is, counted id is j i e h)

place-is : (id : ℕ) (is : List Instr) (j : ℕ) (i : Instr) → slice_get is j ≡ Some i → i.id ≡ id → id_count id is ≤ 1 → (instr_place id is ≡ j) × (j < length is)
place-is id [] j i e h c = absurd (cc)
place-is id (x ∷ is) zero i e h c = (ap (λ b. cond (not b) (1 + instr_place id is) 0) (eq-eqb x.id id (ap (λ y. y.id) (same x i e) ∙ h)), omega arith)
place-is id (x ∷ is) (suc j) i e h c = go (eqb x.id id) refl (λ l. place-is id is j i e h l)
  where
    go : (b : Bool) → eqb x.id id ≡ b → (id_count id is ≤ 1 → (instr_place id is ≡ j) × (j < length is)) → (instr_place id (x ∷ is) ≡ suc j) × (suc j < length (x ∷ is))
    go true g ih =
        let one : one_id id x ≡ 1 = ap (λ b. cond {A = ℕ} b 1 0) g in
        let two = counted id is j i e h in
        let s = split id x is in
        absurd (omega (arith, c, s, one, two))
    go false g ih =
        let z = ih (let s = split id x is in omega (arith, c, s)) in
        let n : 1 + j ≡ suc j = omega arith in
        let l = z.1 in
        (ap (λ b. cond (not b) (1 + instr_place id is) 0) g ∙ ap (λ m. 1 + m) z.0 ∙ n, omega (arith, l))

absent : (id : ℕ) (is : List Instr) → id_count id is ≡ 0 → instr_place id is ≡ length is
absent id [] c = refl
absent id (x ∷ is) c = go (eqb x.id id) refl (λ l. absent id is l)
  where
    go : (b : Bool) → eqb x.id id ≡ b → (id_count id is ≡ 0 → instr_place id is ≡ length is) → instr_place id (x ∷ is) ≡ length (x ∷ is)
    go true g ih =
        let one : one_id id x ≡ 1 = ap (λ b. cond {A = ℕ} b 1 0) g in
        let s = split id x is in
        absurd (omega (arith, c, s, one))
    go false g ih =
        let z = ih (let s = split id x is in omega (arith, c, s)) in
        let n : 1 + length is ≡ length (x ∷ is) = omega arith in
        ap (λ b. cond (not b) (1 + instr_place id is) 0) g ∙ ap (λ m. 1 + m) z ∙ n

total-split : (id : ℕ) (b : Block) (bs : List Block) → id_total id (b ∷ bs) ≡ id_count id b.instrs + id_total id bs
total-split id b bs = sum_by-cons (λ c. id_count id c.instrs) b bs

total-there : (id : ℕ) (bs : List Block) (k j : ℕ) (b : Block) (i : Instr) → slice_get bs k ≡ Some b → slice_get b.instrs j ≡ Some i → i.id ≡ id → 1 ≤ id_total id bs
total-there id [] k j b i e g h = absurd (cc)
total-there id (c ∷ bs) zero j b i e g h =
    let n = counted id c.instrs j i (ap (λ d. slice_get d.instrs j) (same c b e) ∙ g) h in
    omega (arith, total-split id c bs, n)
total-there id (c ∷ bs) (suc k) j b i e g h = omega (arith, total-split id c bs, total-there id bs k j b i e g h)

spot-is : (id : ℕ) (bs : List Block) (k j : ℕ) (b : Block) (i : Instr) → slice_get bs k ≡ Some b → slice_get b.instrs j ≡ Some i → i.id ≡ id → id_total id bs ≤ 1 → spot_in id bs ≡ Some (k, j)
spot-is id [] k j b i e g h c = absurd (cc)
spot-is id (d ∷ bs) zero j b i e g h c =
    let z = place-is id d.instrs j i (ap (λ x. slice_get x.instrs j) (same d b e) ∙ g) h (let s = total-split id d bs in omega (arith, c, s)) in
    let here : has_instr id d ≡ true = ap (λ n. nat_lt n (length d.instrs)) z.0 ∙ lt-ltb j (length d.instrs) z.1 in
    ap (λ q. cond q (Some (0, instr_place id d.instrs)) (option_map one_on (spot_in id bs))) here ∙ ap (λ (n : ℕ). Some (0, n)) z.0
spot-is id (d ∷ bs) (suc k) j b i e g h c =
    let s = total-split id d bs in
    let m = total-there id bs k j b i e g h in
    let none : id_count id d.instrs ≡ 0 = omega (arith, c, s, m) in
    let gone : has_instr id d ≡ false = ap (λ n. nat_lt n (length d.instrs)) (absent id d.instrs none) ∙ le-ltb (length d.instrs) (length d.instrs) (omega arith) in
    ap (λ q. cond q (Some (0, instr_place id d.instrs)) (option_map one_on (spot_in id bs))) gone ∙ ap (option_map one_on) (spot-is id bs k j b i e g h (omega (arith, c, s)))

pub seated : (t : Target) (f : Function) (k j : ℕ) (b : Block) (i : Instr) → ((id : ℕ) → id_total id f.blocks ≤ 1) → slice_get f.blocks k ≡ Some b → slice_get b.instrs j ≡ Some i → Seated t f i
seated t f k j b i once e g = record { position = k; place = j; block = b; spot = spot-is i.id f.blocks k j b i e g refl (once i.id); is_block = e; is_instr = g }

-- opcodes

or-first : {X : Type 0} (a b : Option X) → option_or a b ≡ None → a ≡ None
or-first None b e = refl
or-first (Some x) b e = absurd (cc)

or-second : {X : Type 0} (a b : Option X) → option_or a b ≡ None → b ≡ None
or-second None b e = e
or-second (Some x) b e = absurd (cc)

none-mapped : {X Y : Type 0} (g : X → Y) (q : Option X) → option_map g q ≡ None → q ≡ None
none-mapped g None e = refl
none-mapped g (Some x) e = absurd (cc)

least-second : (a b : Option ℕ) → least a b ≡ None → b ≡ None
least-second None b e = e
least-second (Some x) None e = absurd (cc)
least-second (Some x) (Some y) e = absurd (cc)

abbrev told-by : Option ℕ → Option OpcodeDesc → Option ℕ
told-by r None = Some 16
told-by r (Some d) = r

module _ (t : Target) (form : Form) (f : Function) where
  in-instrs : (k : ℕ) (b : Block) (j : ℕ) (is : List Instr) → instrs_fault t form f k b j is ≡ None → (n : ℕ) (i : Instr) → slice_get is n ≡ Some i → (m : ℕ) × (instr_fault t form f k b m i ≡ None)
  in-instrs k b j [] e n i g = absurd (cc)
  in-instrs k b j (x ∷ is) e zero i g = (j, subst (λ y. instr_fault t form f k b j y ≡ None) (same x i g) (none-mapped (fault_at b j) (instr_fault t form f k b j x) (or-first (option_map (fault_at b j) (instr_fault t form f k b j x)) (instrs_fault t form f k b (suc j) is) e)))
  in-instrs k b j (x ∷ is) e (suc n) i g = in-instrs k b (suc j) is (or-second (option_map (fault_at b j) (instr_fault t form f k b j x)) (instrs_fault t form f k b (suc j) is) e) n i g

  in-block : (k : ℕ) (b : Block) (is : List Instr) → fault_in t form f k b is ≡ None → (n : ℕ) (i : Instr) → slice_get is n ≡ Some i → (m : ℕ) × (instr_fault t form f k b m i ≡ None)
  in-block k b [] e n i g = absurd (cc)
  in-block k b (x ∷ is) e zero i g =
      let head = none-mapped (fault_at b 0) (least (block_fault t form f k b) (instr_fault t form f k b 0 x)) (or-first (option_map (fault_at b 0) (least (block_fault t form f k b) (instr_fault t form f k b 0 x))) (instrs_fault t form f k b 1 is) e) in
      (0, subst (λ y. instr_fault t form f k b 0 y ≡ None) (same x i g) (least-second (block_fault t form f k b) (instr_fault t form f k b 0 x) head))
  in-block k b (x ∷ is) e (suc n) i g = in-instrs k b 1 is (or-second (option_map (fault_at b 0) (least (block_fault t form f k b) (instr_fault t form f k b 0 x))) (instrs_fault t form f k b 1 is) e) n i g

  in-blocks : (k : ℕ) (bs : List Block) → blocks_fault t form f k bs ≡ None → (n j : ℕ) (b : Block) (i : Instr) → slice_get bs n ≡ Some b → slice_get b.instrs j ≡ Some i → (m : ℕ) × (o : ℕ) × (instr_fault t form f o b m i ≡ None)
  in-blocks k [] e n j b i g h = absurd (cc)
  in-blocks k (c ∷ bs) e zero j b i g h =
      let z = in-block k c c.instrs (or-first (fault_in t form f k c c.instrs) (blocks_fault t form f (suc k) bs) e) j i (ap (λ d. slice_get d.instrs j) (same c b g) ∙ h) in
      (z.0, k, subst (λ d. instr_fault t form f k d z.0 i ≡ None) (same c b g) z.1)
  in-blocks k (c ∷ bs) e (suc n) j b i g h = in-blocks (suc k) bs (or-second (fault_in t form f k c c.instrs) (blocks_fault t form f (suc k) bs) e) n j b i g h

  pub known-effect : shape_fault t form f ≡ None → (k j : ℕ) (b : Block) (i : Instr) → slice_get f.blocks k ≡ Some b → slice_get b.instrs j ≡ Some i → (d : OpcodeDesc) × (known_opcode t i.op ≡ Some d)
  unfolding shape_fault instr_fault
  known-effect clean k j b i g h = let z = in-blocks 0 f.blocks clean k j b i g h in go _ (known_opcode t i.op) refl z.2
    where
      go : (r : Option ℕ) (q : Option OpcodeDesc) → known_opcode t i.op ≡ q → told-by r q ≡ None → (d : OpcodeDesc) × (known_opcode t i.op ≡ Some d)
      go r None e n = absurd (cc)
      go r (Some d) e n = (d, e)
