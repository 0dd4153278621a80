-- Fewer units than variables that must hold one of them: no choice keeps these apart.
use Rattle.std.proofs.Common.{◌≡◌, ◌∙◌, ℕ, ◌+◌, ◌<◌, ◌≤◌, suc, Bool, true, false, cond, not, List, [], ◌∷◌, ◌++◌, map, length, get_or, drop, refl, ap, sym, arith, length-append}
use Rattle.std.specs.Prelude.{◌&&◌, ◌||◌, ◌==◌, filter, flat_map}
use Rattle.std.specs.List.{list_all, list_any}
use Rattle.std.specs.Bool.{beq}
use Rattle.std.proofs.lemmas.Bool.{eqb-true}
use Rattle.std.proofs.lemmas.List.Folds.{list_any-append}
use Rattle.std.proofs.lemmas.List.{drop_more, get_or_default}
use Rattle.target_base.specs.declared.types.Reg.{Reg}
use Rattle.target_base.specs.declared.types.Target.{Target}
use Rattle.target_base.specs.declared.types.Unit.{Unit as UnitNumber}
use Rattle.target_base.specs.Numbers.{unit_number}
use Rattle.target_base.specs.Registers.{units_of}
use Rattle.target_base.specs.Storage.{is_among}
use Rattle.mir_meaning.specs.Places.{Kind as Use, Variable as Need, is_defining, must_be_apart, reaches_back, share_a_unit}
use Rattle.phi_elim.proofs.Walks.{drop_all}
use Rattle.place_solve.specs.declared.variables.Variable.{Variable}
use Rattle.place_solve.specs.Choice.{need_of, stands_beside, narrowed, choices_apart, holds_one, must_hold, holders}
use Rattle.place_solve.proofs.Chosen.{dropped}
use Rattle.place_solve.proofs.Narrowing.{begun, begun_all, narrowed_length}

either : (a b : Bool) → (a || b) ≡ true → {P : Type 0} → (a ≡ true → P) → (b ≡ true → P) → P
either true b e f g = f refl
either false b e f g = g e

or_first : (a b : Bool) → a ≡ true → (a || b) ≡ true
or_first a b e = rw e refl

or_second : (a b : Bool) → b ≡ true → (a || b) ≡ true
or_second true b e = refl
or_second false b e = e

both : (a b : Bool) → (a && b) ≡ true → (a ≡ true) × (b ≡ true)
both true b e = (refl, e)
both false b e = absurd (cc)

cases : (b : Bool) → {P : Type 0} → (b ≡ true → P) → (b ≡ false → P) → P
cases true f g = f refl
cases false f g = g refl

-- registers that hold a unit share it

shared : (us ws : List UnitNumber) (u : UnitNumber) → is_among us u ≡ true → is_among ws u ≡ true → list_any (is_among us) ws ≡ true
shared us [] u a b = absurd (cc)
shared us (w ∷ ws) u a b =
    either (w.0 == u.0) (is_among ws u) b
    (λ e. or_first (is_among us w) (list_any (is_among us) ws) (let same : w ≡ u = ap unit_number (eqb-true w.0 u.0 e) in rw same a))
    (λ e. or_second (is_among us w) (list_any (is_among us) ws) (shared us ws u a e))

-- one of these units that the register holds, between the others
record Held (t : Target) (units : List UnitNumber) (r : Reg) : Type 0 where
  front : List UnitNumber
  unit : UnitNumber
  back : List UnitNumber
  parts : units ≡ front ++ unit ∷ back
  holds : is_among (units_of t r) unit ≡ true

held : (t : Target) (units : List UnitNumber) (r : Reg) → holds_one t units r ≡ true → Held t units r
held t [] r e = absurd (cc)
held t (u ∷ us) r e =
    either (is_among (units_of t r) u) (holds_one t us r) e
    (λ h. record { front = []; unit = u; back = us; parts = refl; holds = h })
    (λ h. let rest = held t us r h in record { front = u ∷ rest.front; unit = rest.unit; back = rest.back; parts = ap (λ vs. u ∷ vs) rest.parts; holds = rest.holds })

-- a register that holds one of them, but not this one, holds one of the others
others_held : (t : Target) (front back : List UnitNumber) (u : UnitNumber) (q : Reg) → holds_one t (front ++ u ∷ back) q ≡ true → is_among (units_of t q) u ≡ false → holds_one t (front ++ back) q ≡ true
others_held t front back u q e lacks =
    let test = is_among (units_of t q) in
    let split : (list_any test front || list_any test back) ≡ true = ap (λ b. list_any test front || (b || list_any test back)) (sym lacks) ∙ sym (list_any-append test front (u ∷ back)) ∙ e in
    list_any-append test front back ∙ split

-- how many must hold one, once a register is chosen

passing_kept : (p f g : Reg → Bool) → ((q : Reg) → p q ≡ true → f q ≡ true → g q ≡ true) → (rs : List Reg) → list_all f rs ≡ true → list_all g (filter p rs) ≡ true
passing_kept p f g h [] e = refl
passing_kept p f g h (r ∷ rs) e =
    let parts = both (f r) (list_all f rs) e in
    let rest = passing_kept p f g h rs parts.1 in
    cases (p r)
    (λ kept. rw (kept, h r kept parts.0) rest)
    (λ lost. rw lost rest)

one_kept : (b c d : Bool) → (b ≡ true → c ≡ true → d ≡ true) → cond (b && c) 1 0 ≤ cond (b && d) 1 0
one_kept false c d h = omega arith
one_kept true false d h = omega arith
one_kept true true d h = rw (h refl refl) (omega arith)

holders_kept : (t : Target) (p : Need × Reg) (units others : List UnitNumber) → ((n : Need) (q : Reg) → reaches_back n.kind ≡ true → stands_beside t n.kind q p ≡ true → holds_one t units q ≡ true → holds_one t others q ≡ true) → (ns : List Need) (left : List (List Reg)) → holders t units ns left ≤ holders t others ns (narrowed t p ns left)
holders_kept t p units others h [] left = omega arith
holders_kept t p units others h (n ∷ ns) [] = omega arith
holders_kept t p units others h (n ∷ ns) (rs ∷ left) =
    let here : cond (must_hold t units n rs) 1 0 ≤ cond (must_hold t others n (filter (λ r. stands_beside t n.kind r p) rs)) 1 0 =
    one_kept (reaches_back n.kind) (list_all (holds_one t units) rs) (list_all (holds_one t others) (filter (λ r. stands_beside t n.kind r p) rs))
    (λ b c. passing_kept (λ r. stands_beside t n.kind r p) (holds_one t units) (holds_one t others) (λ q. h n q b) rs c) in
    let behind = holders_kept t p units others h ns left in
    omega (arith, here, behind)

-- what stands beside a register that holds a unit doesn't hold it

not_shared : (a b : Bool) → a ≡ true → not (a && b) ≡ true → b ≡ false
not_shared true true e h = absurd (cc)
not_shared true false e h = refl
not_shared false b e h = absurd (cc)

apart_if : (a b : Use) → reaches_back a ≡ true → reaches_back b ≡ true → must_be_apart a b ≡ true
apart_if a b e f = rw (e, f) (or_second (beq (is_defining a) (is_defining b)) true refl)

not_held : (t : Target) (n m : Need) (r q : Reg) (u : UnitNumber) → reaches_back n.kind ≡ true → reaches_back m.kind ≡ true → is_among (units_of t r) u ≡ true → stands_beside t m.kind q (n, r) ≡ true → is_among (units_of t q) u ≡ false
not_held t n m r q u a b holds beside =
    let none : share_a_unit t r q ≡ false = not_shared (must_be_apart n.kind m.kind) (share_a_unit t r q) (apart_if n.kind m.kind a b) beside in
    cases (is_among (units_of t q) u)
    (λ has. absurd (let some = shared (units_of t r) (units_of t q) u holds has in cc))
    (λ lacks. lacks)

nothing_of : {X Y : Type 0} (f : X → Bool) (g : X → List Y) → ((x : X) → f x ≡ true → g x ≡ []) → (xs : List X) → list_all f xs ≡ true → flat_map g xs ≡ []
nothing_of f g h [] e = refl
nothing_of f g h (x ∷ xs) e = let parts = both (f x) (list_all f xs) e in rw (h x parts.0) (nothing_of f g h xs parts.1)

list_all_true : {X : Type 0} (xs : List X) → list_all (λ x. true) xs ≡ true
list_all_true [] = refl
list_all_true (x ∷ xs) = list_all_true xs

pub units_short : (t : Target) (ns : List Need) (left : List (List Reg)) (units : List UnitNumber) → length ns ≡ length left → length units < holders t units ns left → choices_apart t ns left ≡ []
unfolding begun
units_short t [] left units e h = absurd (omega arith)
units_short t (n ∷ ns) [] units e h = absurd (omega arith)
units_short t (n ∷ ns) (rs ∷ left) units e h =
    let same : length ns ≡ length left = omega arith in
    let after = λ (r : Reg). narrowed t (n, r) ns left in
    let fits = λ (r : Reg). same ∙ sym (narrowed_length t (n, r) ns left) in
    begun_all t n ns rs rs left same
    ∙ cases (must_hold t units n rs)
    (λ must.
    let parts = both (reaches_back n.kind) (list_all (holds_one t units) rs) must in
    let counted = rw must at h in
    let more : length units < 1 + holders t units ns left = omega (arith, counted) in
    nothing_of (holds_one t units) (begun t (n ∷ ns) (rs ∷ left)) (λ r some.
    let one = held t units r some in
    let kept = holders_kept t (n, r) units (one.front ++ one.back) (λ m q back beside holds. others_held t one.front one.back one.unit q (rw one.parts at holds) (not_held t n m r q one.unit parts.0 back one.holds beside)) ns left in
    let fewer : length units ≡ length (one.front ++ one.back) + 1 = omega (arith, ap length one.parts, length-append one.front (one.unit ∷ one.back), length-append one.front one.back) in
    ap (map (λ qs. r ∷ qs)) (units_short t ns (after r) (one.front ++ one.back) (fits r) (omega (arith, more, kept, fewer)))) rs parts.1)
    (λ free.
    let counted = rw free at h in
    let more : length units < holders t units ns left = omega (arith, counted) in
    nothing_of (λ r. true) (begun t (n ∷ ns) (rs ∷ left)) (λ r some.
    let kept = holders_kept t (n, r) units units (λ m q back beside holds. holds) ns left in
    ap (map (λ qs. r ∷ qs)) (units_short t ns (after r) units (fits r) (omega (arith, more, kept)))) rs (list_all_true rs))

-- the variables are counted one after the other

holders_none : (t : Target) (units : List UnitNumber) (ns : List Need) → holders t units ns [] ≡ 0
holders_none t units [] = refl
holders_none t units (n ∷ ns) = refl

pub holders_next : (t : Target) (units : List UnitNumber) (vs : List Variable) (left : List (List Reg)) (k : ℕ) (d : Variable) (here : List Reg) (must : Bool) (count one total : ℕ) → k < length vs → k < length left → here ≡ get_or left k here → must ≡ must_hold t units (need_of (get_or vs k d)) here → one ≡ cond must 1 0 → count + holders t units (drop k (map need_of vs)) (drop k left) ≡ total → (count + one) + holders t units (drop (k + 1) (map need_of vs)) (drop (k + 1) left) ≡ total
holders_next t units vs left k d here must count one total h g at told is was =
    let e : holders t units (drop k (map need_of vs)) (drop k left) ≡ one + holders t units (drop (k + 1) (map need_of vs)) (drop (k + 1) left) =
    rw (dropped k vs (get_or vs k d) h (get_or_default vs k d (get_or vs k d) h), drop_more left k here g, ← at, is, told) refl in
    omega (arith, e, was)

pub holders_all : (t : Target) (units : List UnitNumber) (ns : List Need) (left : List (List Reg)) (k count total : ℕ) → length left ≤ k → count + holders t units (drop k ns) (drop k left) ≡ total → count ≡ total
holders_all t units ns left k count total h was =
    let none : holders t units (drop k ns) (drop k left) ≡ 0 = ap (holders t units (drop k ns)) (drop_all k left h) ∙ holders_none t units (drop k ns) in
    omega (arith, none, was)
