-- Edges scaled by k: the tests of x and of height are those of the edge itself, and so are its points. Segments without a common point are apart.
use Rattle.std.specs.Prelude.{ℤ, pos, ◌<ℤ◌}
use Rattle.std.proofs.Common.{sym, ◌∙◌}
use Rattle.geom.specs.declared.Segment.{Segment}
use Rattle.geom.specs.Off.{Off, On}
use Rattle.laws.proofs.NodeLaws.{no_factor}
use Rattle.laws.specs.Scale.{cross-down, down, scaled, within}

module _ (k : ℤ) (hk : pos 0 <ℤ k) where
  pub on_down : (t : Segment) (Z : Off) → On (scaled k t) Z → On t ((down k hk) Z)
  on_down t Z h = record {
    wide = (within k hk) Z.d t.a.x.0 t.b.x.0 Z.X h.wide;
    high = (within k hk) Z.d t.a.y.0 t.b.y.0 Z.Y h.high;
    line = no_factor k hk (sym ((cross-down k hk) t Z) ∙ h.line);
  }
