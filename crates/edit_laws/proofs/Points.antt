-- Points of two functions whose codes differ at items that name some lanes alone.
use Rattle.std.proofs.Common.{◌⊎◌, ℕ}
use Rattle.target_base.specs.declared.types.Target.{Target}
use Rattle.meaning.specs.declared.types.Lane.{Lane}
use Rattle.meaning.specs.Code.{found}
use Rattle.mir_func.specs.Value.{Function}
use Rattle.mir_meaning.specs.Registers.{is_reserved}
use Rattle.mir_meaning.specs.Points.{Start, Entry, Exit, LiveAt, from_instr, points_of}
use Rattle.edit_laws.specs.Laws.{IsSameBut}
use Rattle.edit_laws.proofs.Beside.{Beside, Facing, facing-beside, facing-turned, found-beside, still, still-entry-held, still-exit, still-exit-held, turned}

module _ (t : Target) (f g : Function) (Led : Lane → Type 0) (codes : Beside Led (points_of t f) (points_of t g)) (l : Lane) where
  pub same-start : (n : ℕ) → IsSameBut t f g (Start n) Led l
  same-start n = record { live = forth; live_back = back; occupied = forth; occupied_back = back }
    where
      forth : LiveAt t f (Start n) l → LiveAt t g (Start n) l ⊎ Led l
      forth h = still (is_reserved t) Led (points_of t f) (points_of t g) codes h (found n (points_of t g)) (found-beside n codes)

      back : LiveAt t g (Start n) l → LiveAt t f (Start n) l ⊎ Led l
      back h = still (is_reserved t) Led (points_of t g) (points_of t f) (turned codes) h (found n (points_of t f)) (found-beside n (turned codes))

  module _ (id : ℕ) (facing : Facing Led (from_instr t f id f.blocks) (from_instr t g id g.blocks)) where
    pub same-entry : IsSameBut t f g (Entry id) Led l
    same-entry = record {
      live = λ h. still (is_reserved t) Led (points_of t f) (points_of t g) codes h (from_instr t g id g.blocks) (facing-beside facing);
      live_back = λ h. still (is_reserved t) Led (points_of t g) (points_of t f) (turned codes) h (from_instr t f id f.blocks) (facing-beside (facing-turned facing));
      occupied = λ h. still-entry-held (is_reserved t) Led (points_of t f) (points_of t g) codes l facing h;
      occupied_back = λ h. still-entry-held (is_reserved t) Led (points_of t g) (points_of t f) (turned codes) l (facing-turned facing) h;
    }

    pub same-exit : IsSameBut t f g (Exit id) Led l
    same-exit = record {
      live = λ h. still-exit (is_reserved t) Led (points_of t f) (points_of t g) codes l facing h;
      live_back = λ h. still-exit (is_reserved t) Led (points_of t g) (points_of t f) (turned codes) l (facing-turned facing) h;
      occupied = λ h. still-exit-held (is_reserved t) Led (points_of t f) (points_of t g) codes l facing h;
      occupied_back = λ h. still-exit-held (is_reserved t) Led (points_of t g) (points_of t f) (turned codes) l (facing-turned facing) h;
    }
