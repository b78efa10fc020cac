-- How two segments cross ("Crossing").
use Rattle.std.specs.Prelude.{Bool, true, false, not, cond, ◌&&◌, ◌||◌, ℕ, ◌+◌, ◌*◌, ◌%◌, ltb, leb, eqb, pos, nat_abs, Option, Some, None, Result, Ok, Err}
use Rattle.geom.specs.declared.Point.{Point}
use Rattle.geom.specs.declared.Segment.{Segment}
use Rattle.geom.specs.Plane.{point, same_point, between, grid_segment, against, side_of}
unfoldable pub use Rattle.plane.specs.Quotients.{nearest}
unfoldable pub use Rattle.middles.specs.Point.{level, quotient, cross_point, far, nearer, reach}
use Rattle.cross.specs.declared.answer.Kind.{Kind}
use Rattle.cross.specs.declared.answer.Kind.TheVariants.{Pure, TargetEnd, OtherEnd, Overlay}
use Rattle.cross.specs.declared.answer.Cross.{Cross}
use Rattle.cross.specs.declared.answer.CrossError.{CrossError}
use Rattle.cross.specs.declared.answer.CrossError.TheVariants.{OffGrid, NoLength}

abbrev pub found : Point → Kind → Bool → Option Cross
found p k r = Some (record { point = p; kind = k; rounded = r })

-- ---- collinear: an end marks the other segment exactly if it lies strictly between its ends

-- p lies strictly between the ends of v, whichever comes first
unfoldable pub inner : Segment → Point → Bool
inner v p = between v.a p v.b || between v.b p v.a

abbrev pub bit : Bool → ℕ
bit t = cond t 1 0

-- target a 1, target b 2, other a 4, other b 8
unfoldable pub collinear_mask : Segment → Segment → ℕ
collinear_mask t o = bit (inner o t.a) + 2 * bit (inner o t.b) + 4 * bit (inner t o.a) + 8 * bit (inner t o.b)

-- ---- a middle crossing: exact, moved to an end, or rounded

-- p lies on the line of v
abbrev pub on_line : Segment → Point → Bool
on_line v p = eqb (nat_abs (against v p)) 0

unfoldable pub on_both : Segment → Segment → Point → Bool
on_both t o p = on_line t p && on_line o p

-- some end is within the radius: the nearest is taken, target's on a tie; otherwise the rounded point stays
unfoldable pub snapped : ℕ → Segment → Segment → Point → Option Cross
snapped radius t o p =
    cond (leb (reach t p) radius || leb (reach o p) radius)
    (cond (leb (reach t p) (reach o p)) (found (nearer t p) TargetEnd true) (found (nearer o p) OtherEnd true))
    (found p Pure true)

-- the radius is squared
unfoldable pub middle : ℕ → Segment → Segment → Point → Option Cross
middle radius t o p = cond (on_both t o p) (found p Pure false) (snapped radius t o p)

-- ---- by the four signs: other's ends against target's line, target's ends against other's

-- one where a side is 1: on the line
abbrev pub zero : ℕ → ℕ
zero s = s % 2

abbrev pub origin : Point
origin = point (pos 0) (pos 0)

-- all zero: collinear. More than one zero, or equal signs in either couple: none. One zero: that end marks the other. No zero: a middle crossing
unfoldable pub cross_by : ℕ → Segment → Segment → ℕ → ℕ → ℕ → ℕ → Option Cross
cross_by radius t o s1 s2 s3 s4 =
    let zeros = zero s1 + zero s2 + zero s3 + zero s4 in
    let m = middle radius t o (cross_point t o) in
    cond (eqb zeros 4) (found origin Overlay false)
    (cond (ltb 1 zeros || (eqb s1 s2 || eqb s3 s4)) None
    (cond (eqb s1 1) (found o.a OtherEnd false)
    (cond (eqb s2 1) (found o.b OtherEnd false)
    (cond (eqb s3 1) (found t.a TargetEnd false)
    (cond (eqb s4 1) (found t.b TargetEnd false) m)))))

unfoldable pub crossing : ℕ → Segment → Segment → Option Cross
crossing radius t o =
    cross_by radius t o (side_of t.a t.b o.a) (side_of t.a t.b o.b) (side_of o.a o.b t.a) (side_of o.a o.b t.b)

-- ---- of any two segments: 3 off the grid, then 4 without length

abbrev pub has_length : Segment → Bool
has_length v = not (same_point v.a v.b)

unfoldable pub cross_any : ℕ → Segment → Segment → Result (Option Cross) CrossError
cross_any radius t o =
    cond (grid_segment t && grid_segment o) (cond (has_length t && has_length o) (Ok (crossing radius t o)) (Err NoLength)) (Err OffGrid)
