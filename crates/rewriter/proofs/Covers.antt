-- Live-ins so far.
use Rattle.std.proofs.Common.{◌≡◌, ◌∙◌, ℕ, zero, suc, ◌+◌, ◌-◌, ◌<◌, ◌≤◌, List, [], ◌∷◌, ◌++◌, Bool, true, false, cond, ◌&&◌, ◌||◌, Option, None, Some, length, length-set, get_or, take, map, refl, sym, ap, arith, append_assoc, append-nil, lt-ltb}
use Rattle.std.specs.Prelude.{nat_eq, nat_lt, filter, replicate}
use Rattle.std.proofs.lemmas.Bool.Decides.{nat_tests}
use Rattle.target_base.specs.declared.types.Reg.{Reg}
use Rattle.target_base.specs.declared.types.Target.{Target}
use Rattle.target_base.specs.Numbers.{reg_number}
use Rattle.target_base.specs.Storage.{is_unreserved}
use Rattle.target_base.proofs.Sound.{units_count}
use Rattle.mir_func.specs.declared.func.Block.{Block}
use Rattle.mir_func.specs.Binding.{passes}
use Rattle.mir_meaning.specs.Registers.{numbers}
use Rattle.mir_meaning.specs.Valid.{chosen, cover, unreserved_registers}
use Rattle.machine_verify.specs.Liveins.{is_set}
use Rattle.machine_verify.proofs.Lived.{numbers_step, numbers_end}
use Rattle.rewriter.specs.Holders.{AreHolders, chosen_among, chosen_for, with_flag, is_chosen}
use Rattle.rewriter.specs.Physical.{physical_liveins}
use Rattle.rewriter.proofs.Marked.{or_false, set_more, set_none}
use Rattle.rewriter.proofs.Rows.{row_at}

-- the register that is found for a live unit
pub chosen_is : (t : Target) (live : ℕ → Bool) (hs : List (List Reg)) (u : ℕ) (f g : List Reg) (r : Option Reg) → AreHolders t (unreserved_registers t) hs → u < length t.units → live u ≡ true → f ≡ get_or hs u f → g ≡ f → r ≡ chosen_among t live g → r ≡ chosen_for t live u
chosen_is t live hs u f g r all h l at is e =
    let n = all.count in
    let within : u < length hs = omega (arith, n) in
    e
    ∙ (ap (chosen_among t live) (is ∙ (at ∙ (row_at hs u f within ∙ all.lists u h)))
    ∙ sym (ap (λ b. cond b (chosen t live u) None) l))

-- flags of registers

or_apart : (a b c : Bool) → ((a || b) || c) ≡ (a || (b || c))
or_apart true b c = refl
or_apart false b c = refl

chosen_live : (p : Reg → Bool) (b : Bool) (o : Option Reg) → passes p (cond b o None) ≡ (b && passes p o)
chosen_live p true o = refl
chosen_live p false o = refl

flag_set : (fs : List Bool) (o : Option Reg) (r : ℕ) → r < length fs → is_set (with_flag fs o) r ≡ (is_set fs r || passes (λ q. nat_eq r q.0) o)
flag_set fs None r h = sym (or_false (is_set fs r))
flag_set fs (Some q) r h =
    let within : nat_lt r (length fs) ≡ true = lt-ltb r (length fs) h in
    let swap : nat_eq q.0 r ≡ nat_eq r q.0 = grind (arith, nat_tests) in
    set_more fs q.0 r ∙ (ap (λ b. is_set fs r || (b && nat_eq q.0 r)) within ∙ ap (λ b. is_set fs r || b) swap)

pub flag_count : (fs new : List Bool) (o : Option Reg) → new ≡ with_flag fs o → length new ≡ length fs
flag_count fs new None e = ap length e
flag_count fs new (Some q) e = ap length e ∙ length-set fs q.0 true

-- no unit is looked at yet
pub flags_none : (t : Target) (live : ℕ → Bool) (n : ℕ) (fs : List Bool) (us vs : List ℕ) → us ≡ vs → fs ≡ replicate n false → (r : ℕ) → (is_set fs r || is_chosen t live us r) ≡ is_chosen t live vs r
flags_none t live n fs us vs same e r =
    ap (λ b. b || is_chosen t live us r) (ap (λ xs. is_set xs r) e ∙ set_none n r) ∙ ap (λ xs. is_chosen t live xs r) same

-- one more unit is looked at
pub flags_more : (t : Target) (live : ℕ → Bool) (n u : ℕ) (fs new : List Bool) (o : Option Reg) (whole : Bool) (r : ℕ) → u < n → r < length fs → o ≡ chosen_for t live u → new ≡ with_flag fs o → (is_set fs r || is_chosen t live (numbers u (n - u)) r) ≡ whole → (is_set new r || is_chosen t live (numbers (u + 1) (n - (u + 1))) r) ≡ whole
flags_more t live n u fs new o whole r h k is made was =
    let p : Reg → Bool = λ q. nat_eq r q.0 in
    let rest = is_chosen t live (numbers (u + 1) (n - (u + 1))) r in
    ap (λ b. b || rest) (ap (λ xs. is_set xs r) made ∙ (flag_set fs o r k ∙ ap (λ b. is_set fs r || b) (ap (passes p) is ∙ chosen_live p (live u) (chosen t live u))))
    ∙ (or_apart (is_set fs r) (live u && passes p (chosen t live u)) rest
    ∙ (ap (λ us. is_set fs r || is_chosen t live us r) (sym (numbers_step u n h)) ∙ was))

-- all are
pub flags_all : (t : Target) (live : ℕ → Bool) (n u : ℕ) (fs : List Bool) (whole : Bool) (r : ℕ) → n ≤ u → (is_set fs r || is_chosen t live (numbers u (n - u)) r) ≡ whole → is_set fs r ≡ whole
flags_all t live n u fs whole r h was =
    sym (or_false (is_set fs r)) ∙ (ap (λ us. is_set fs r || is_chosen t live us r) (sym (numbers_end u n h)) ∙ was)

-- tests that agree on the target's registers
filter_agrees : (p q c : Reg → Bool) (n k m : ℕ) → k + m ≤ n → ((r : ℕ) → r < n → p (reg_number r) ≡ q (reg_number r)) → filter p (filter c (map reg_number (numbers k m))) ≡ filter q (filter c (map reg_number (numbers k m)))
filter_agrees p q c n k zero h e = refl
filter_agrees p q c n k (suc m) h e = go (c (reg_number k)) (filter_agrees p q c n (suc k) m (omega arith) e) (e k (omega arith))
  where
    rest : List Reg
    rest = filter c (map reg_number (numbers (suc k) m))

    go : (b : Bool) → filter p rest ≡ filter q rest → p (reg_number k) ≡ q (reg_number k) → filter p (cond b (reg_number k ∷ rest) rest) ≡ filter q (cond b (reg_number k ∷ rest) rest)
    go true later here =
        ap (λ b. cond b (reg_number k ∷ filter p rest) (filter p rest)) here
        ∙ ap (λ xs. cond (q (reg_number k)) (reg_number k ∷ xs) xs) later
    go false later here = later

-- the unreserved registers whose flags are set are the cover
pub cover_of : (t : Target) (live : ℕ → Bool) (fs : List Bool) (rs made : List Reg) → rs ≡ unreserved_registers t → ((r : ℕ) → r < length t.regs → is_set fs r ≡ is_chosen t live (numbers 0 (length t.units)) r) → made ≡ filter (λ r. is_set fs r.0) rs → made ≡ cover t live
unfolding cover
cover_of t live fs rs made e flags m =
    m ∙ (ap (filter (λ r. is_set fs r.0)) e ∙ filter_agrees (λ r. is_set fs r.0) (λ r. is_chosen t live (numbers 0 (length t.units)) r.0) (is_unreserved t.reserved t.regs) (length t.regs) 0 (length t.regs) (omega arith) flags)

-- the first block's live-ins come first
pub covers_first : (t : Target) (live : ℕ → ℕ → Bool) (bs : List Block) (made : List (List Reg)) → made ≡ map (λ b. b.liveins) (take 1 bs) → made ++ map (λ p. cover t (live p)) (numbers 1 (length bs - 1)) ≡ physical_liveins t live bs
covers_first t live [] made e = rw e refl
covers_first t live (b ∷ bs) made e =
    let n : length (b ∷ bs) - 1 ≡ length bs = omega arith in
    rw (e, n) refl

-- one block more
pub covers_more : (t : Target) (live : ℕ → ℕ → Bool) (n k : ℕ) (made new total : List (List Reg)) (r : List Reg) → k < n → r ≡ cover t (live k) → new ≡ made ++ r ∷ [] → made ++ map (λ p. cover t (live p)) (numbers k (n - k)) ≡ total → new ++ map (λ p. cover t (live p)) (numbers (k + 1) (n - (k + 1))) ≡ total
covers_more t live n k made new total r h is grown was =
    let f : ℕ → List Reg = λ p. cover t (live p) in
    let rest = map f (numbers (k + 1) (n - (k + 1))) in
    ap (λ xs. xs ++ rest) grown
    ∙ (append_assoc made (r ∷ []) rest
    ∙ (ap (λ x. made ++ x ∷ rest) is
    ∙ (ap (λ ns. made ++ map f ns) (sym (numbers_step k n h)) ∙ was)))

pub covers_all : (t : Target) (live : ℕ → ℕ → Bool) (n k : ℕ) (made total : List (List Reg)) → n ≤ k → made ++ map (λ p. cover t (live p)) (numbers k (n - k)) ≡ total → made ≡ total
covers_all t live n k made total h was =
    sym (append-nil made) ∙ (ap (λ ns. made ++ map (λ p. cover t (live p)) ns) (sym (numbers_end k n h)) ∙ was)

-- the first block's live-ins stay
pub covers_stay : (t : Target) (live : ℕ → ℕ → Bool) (bs : List Block) (made : List (List Reg)) → made ≡ physical_liveins t live bs → take 1 made ≡ map (λ b. b.liveins) (take 1 bs)
covers_stay t live [] made e = rw e refl
covers_stay t live (b ∷ bs) made e = rw e refl

pub few_units : (t : Target) → length t.units ≤ 512
few_units t = units_count t.name t.version t.units t.regs t.reserved t.indexes t.classes t.masks t.opcodes t.sound
