-- Each test of Plane decides its sentence: true where the sentence holds, false where it does not. The laws of deciding are whole's, passed on with the tests.
use Rattle.std.specs.Prelude.{◌≡◌, ℕ, ℤ, pos, ◌<ℤ◌}
pub use Rattle.whole.specs.Decide.{Decides, yes, no, holds, fails, test_is, said, both, and, either, unless}
pub use Rattle.whole.proofs.DecideLaws.{when_true, when_false, lt?, le?, same?}

-- ---- the side: which sign a code stands for

pub data Sign (z : ℤ) : ℕ → Type 0 where
  under : z <ℤ pos 0 → Sign z 0
  zero : z ≡ pos 0 → Sign z 1
  over : pos 0 <ℤ z → Sign z 2
