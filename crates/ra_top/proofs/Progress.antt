-- Pieces that are treated in turn.
use Rattle.std.proofs.Common.{◌≡◌, ℕ, List, [], ◌∷◌, ◌++◌, Option, Some, None, refl, ap, sym, ◌∙◌, subst, append-nil}
use Rattle.std.specs.Prelude.{IfSome}
use Rattle.std.proofs.lemmas.Grind.{flat_map-append}
use Rattle.target_base.specs.declared.types.Target.{Target}
use Rattle.ra_top.specs.Devices.Device.{WritesAll}
use Rattle.ra_top.proofs.DeviceLemmas.Written.{part_after, all_after}
use Rattle.ra_top.specs.declared.commands.answer.Job.{Job}
use Rattle.ra_top.specs.declared.commands.spot.DocStart.{DocStart}
use Rattle.ra_top.specs.declared.commands.status.Status.{Status}
use Rattle.ra_top.specs.declared.commands.status.Status.TheVariants as status
use Rattle.ra_top.specs.Commands.Spot.{first_spot, after}
use Rattle.ra_top.specs.Due.{Treatment, output, Treated}
use Rattle.ra_top.specs.Told.{Streamed}
use Rattle.ra_top.specs.Steps.{EndsHere, GoesOn}
use Rattle.ra_top.proofs.Nothing.{writes_none}

-- the rest meets another fact
pub treated_then : (job : Job) (t : Target) (P Q : DocStart → List ℕ → Type 0) → ((s : DocStart) (x : List ℕ) → P s x → Q s x) → (spot : DocStart) (text : List ℕ) (ps : List Treatment) → Treated job t spot text ps P → Treated job t spot text ps Q
treated_then job t P Q h spot text [] is = h spot text is
treated_then job t P Q h spot text (p ∷ ps) (rest, cut, held, answer, more) = (rest, cut, held, answer, treated_then job t P Q h (after spot p.piece) rest ps more)

-- the rest begins with one more piece
pub treated_more : (job : Job) (t : Target) (P : DocStart → List ℕ → Type 0) (p : Treatment) (spot : DocStart) (text : List ℕ) (ps : List Treatment) → Treated job t spot text ps (λ s x. Treated job t s x (p ∷ []) P) → Treated job t spot text (ps ++ p ∷ []) P
treated_more job t P p spot text [] is = is
treated_more job t P p spot text (q ∷ ps) (rest, cut, held, answer, more) = (rest, cut, held, answer, treated_more job t P p (after spot q.piece) rest ps more)

-- how far a run has come: the spot, the chunk and the rest behind it, and what is written
pub record Progress (job : Job) (t : Target) (file : List ℕ) (spot : DocStart) (chunk : List ℕ) (left old new : Option (List ℕ)) : Type 0 where
  pub pieces : List Treatment
  pub rest : List ℕ
  pub left_is : left ≡ Some rest
  pub treated : Treated job t first_spot file pieces (λ s x. (s ≡ spot) × (x ≡ chunk ++ rest))
  pub written : WritesAll old new (output pieces)

-- the same, where the file is told
abbrev pub Progresses : Job → Target → Option (List ℕ) → DocStart → List ℕ → Option (List ℕ) → Option (List ℕ) → Option (List ℕ) → Type 0
Progresses job t first spot chunk left old new = IfSome first (λ file. Progress job t file spot chunk left old new)

pub begins : (job : Job) (t : Target) (first : Option (List ℕ)) (spot : DocStart) (chunk : List ℕ) (old : Option (List ℕ)) → spot ≡ first_spot → chunk ≡ [] → Progresses job t first spot chunk first old old
begins job t None spot chunk old s c = tt
begins job t (Some file) spot chunk old s c = record {
  pieces = [];
  rest = file;
  left_is = refl;
  treated = (sym s, ap (λ x. x ++ file) (sym c));
  written = writes_none old;
}

goes : (job : Job) (t : Target) (file : List ℕ) (spot next : DocStart) (chunk now_chunk : List ℕ) (left now_left old mid new : Option (List ℕ)) → (p : Progress job t file spot chunk left old mid) → GoesOn job t spot next (chunk ++ p.rest) now_left now_chunk mid new → Progress job t file next now_chunk now_left old new
goes job t file spot next chunk now_chunk left now_left old mid new p g =
    let q : Treatment = record { piece = g.piece; text = g.out.text } in
    let End : DocStart → List ℕ → Type 0 = λ s x. (s ≡ next) × (x ≡ now_chunk ++ g.rest) in
    record {
      pieces = p.pieces ++ q ∷ [];
      rest = g.rest;
      left_is = g.left_is;
      treated = treated_more job t End q first_spot file p.pieces (treated_then job t _ _ (λ s x is.
          let at : Treated job t spot (chunk ++ p.rest) (q ∷ []) End = (now_chunk ++ g.rest, g.cut, g.held, g.out.is, (sym g.next_is, refl)) in
          subst (λ y. Treated job t s y (q ∷ []) End) (sym is.1) (subst (λ z. Treated job t z (chunk ++ p.rest) (q ∷ []) End) (sym is.0) at))
          first_spot file p.pieces p.treated);
      written = subst (λ o. WritesAll old new o) (sym (flat_map-append (λ r. r.text) p.pieces (q ∷ [])) ∙ refl) (all_after old mid new (output p.pieces) (g.out.text ++ []) p.written (subst (λ o. WritesAll mid new o) (sym (append-nil g.out.text)) g.out.written));
    }

-- a document is treated, and the run goes on
pub goes_on : (job : Job) (t : Target) (first : Option (List ℕ)) (spot next : DocStart) (chunk now_chunk : List ℕ) (left now_left old mid new : Option (List ℕ)) → Progresses job t first spot chunk left old mid → IfSome left (λ l. GoesOn job t spot next (chunk ++ l) now_left now_chunk mid new) → Progresses job t first next now_chunk now_left old new
goes_on job t None spot next chunk now_chunk left now_left old mid new p g = tt
goes_on job t (Some file) spot next chunk now_chunk left now_left old mid new p g = goes job t file spot next chunk now_chunk left now_left old mid new p (subst (λ o. IfSome o (λ l. GoesOn job t spot next (chunk ++ l) now_left now_chunk mid new)) p.left_is g)

ended : (job : Job) (t : Target) (file : List ℕ) (spot : DocStart) (chunk : List ℕ) (left old mid : Option (List ℕ)) (P : DocStart → List ℕ → Type 0) → (p : Progress job t file spot chunk left old mid) → P spot (chunk ++ p.rest) → Treated job t first_spot file p.pieces P
ended job t file spot chunk left old mid P p is = treated_then job t _ _ (λ s x at. subst (λ y. P s y) (sym at.1) (subst (λ z. P z (chunk ++ p.rest)) (sym at.0) is)) first_spot file p.pieces p.treated

stays : (old mid new : Option (List ℕ)) (out : List ℕ) → WritesAll old mid out → new ≡ mid → WritesAll old new out
stays old mid new out w e = subst (λ n. WritesAll old n out) (sym e) w

stops : (job : Job) (t : Target) (file : List ℕ) (spot : DocStart) (chunk : List ℕ) (left now_left old mid new : Option (List ℕ)) (s : Status) (detail : List ℕ) → (p : Progress job t file spot chunk left old mid) → EndsHere job t spot (chunk ++ p.rest) now_left mid new s detail → Streamed job t file now_left old new s detail
stops job t file spot chunk left now_left old mid new status.Done detail p (last, at, w) = record { out = output p.pieces ++ last; due = record { pieces = p.pieces; last = last; treated = ended job t file spot chunk left old mid _ p at; written = refl }; written = all_after old mid new (output p.pieces) last p.written w }
stops job t file spot chunk left now_left old mid new status.Usage detail p (last, at, w) = record { out = output p.pieces ++ last; due = record { pieces = p.pieces; last = last; treated = ended job t file spot chunk left old mid _ p at; written = refl }; written = all_after old mid new (output p.pieces) last p.written w }
stops job t file spot chunk left now_left old mid new (status.Target f) detail p (last, at, w) = record { out = output p.pieces ++ last; due = record { pieces = p.pieces; last = last; treated = ended job t file spot chunk left old mid _ p at; written = refl }; written = all_after old mid new (output p.pieces) last p.written w }
stops job t file spot chunk left now_left old mid new (status.Text f) detail p (last, at, w) = record { out = output p.pieces ++ last; due = record { pieces = p.pieces; last = last; treated = ended job t file spot chunk left old mid _ p at; written = refl }; written = all_after old mid new (output p.pieces) last p.written w }
stops job t file spot chunk left now_left old mid new (status.Limit l) detail p (last, at, w) = record { out = output p.pieces ++ last; due = record { pieces = p.pieces; last = last; treated = ended job t file spot chunk left old mid _ p at; written = refl }; written = all_after old mid new (output p.pieces) last p.written w }
stops job t file spot chunk left now_left old mid new (status.Invalid x) detail p (last, at, w) = record { out = output p.pieces ++ last; due = record { pieces = p.pieces; last = last; treated = ended job t file spot chunk left old mid _ p at; written = refl }; written = all_after old mid new (output p.pieces) last p.written w }
stops job t file spot chunk left now_left old mid new (status.Unassignable q) detail p (last, at, w) = record { out = output p.pieces ++ last; due = record { pieces = p.pieces; last = last; treated = ended job t file spot chunk left old mid _ p at; written = refl }; written = all_after old mid new (output p.pieces) last p.written w }
stops job t file spot chunk left now_left old mid new status.NotYet detail p (last, at, w) = record { out = output p.pieces ++ last; due = record { pieces = p.pieces; last = last; treated = ended job t file spot chunk left old mid _ p at; written = refl }; written = all_after old mid new (output p.pieces) last p.written w }
stops job t file spot chunk left now_left old mid new status.ReadFault detail p e = record { pieces = p.pieces; treated = ended job t file spot chunk left old mid _ p e.0; written = stays old mid new _ p.written e.1 }
stops job t file spot chunk left now_left old mid new status.WriteFault detail p (out, next, part) = record { pieces = p.pieces; next = out; treated = ended job t file spot chunk left old mid _ p next; written = part_after old mid new (output p.pieces) out p.written part }
stops job t file spot chunk left now_left old mid new status.Memory detail p e = record { pieces = p.pieces; treated = ended job t file spot chunk left old mid _ p tt; written = stays old mid new _ p.written e }

-- a run ends
pub run_stops : (job : Job) (t : Target) (first : Option (List ℕ)) (spot : DocStart) (chunk : List ℕ) (left now_left old mid new : Option (List ℕ)) (s : Status) (detail : List ℕ) → Progresses job t first spot chunk left old mid → IfSome left (λ l. EndsHere job t spot (chunk ++ l) now_left mid new s detail) → IfSome first (λ file. Streamed job t file now_left old new s detail)
run_stops job t None spot chunk left now_left old mid new s detail p e = tt
run_stops job t (Some file) spot chunk left now_left old mid new s detail p e = stops job t file spot chunk left now_left old mid new s detail p (subst (λ o. IfSome o (λ l. EndsHere job t spot (chunk ++ l) now_left mid new s detail)) p.left_is e)
