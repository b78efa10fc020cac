-- In reading order. What the laws speak of, beside balance (segm) and the masks (build):
--   Edges       a list to compute on
--   Sides       the sums at the right end of an edge, and on the left of an upright one (Req 13)
--   Ray         the count of a ray
-- Balance:
--   Boundary    it is one equation for every function of points, and holds over every region
--   Steps       what a run does to a list keeps it
--   Prepared    the list of the first look is balanced exactly if the given one is
--   Cuts        splitting keeps it
-- Masks, of settled and balanced lists:
--   Settled     forward, and every two apart
--   Place       which of two apart segments is under the other
--   Below       one test for what is below an edge, upright or not
--   Along       the sum below an edge at both of its ends (Req 13, first half)
--   Mid         and anywhere between
--   Column      the sums on both sides of a column
--   Node        what lies below an edge at each of its ends
--   Fan         the edges at a point, in order
--   Upright     the two sides of an upright edge (Req 13, second half)
--   Telescope   rises of any g over a strict total order
--   Law         the sign law
-- Rays:
--   Foot        the foot of a point on an edge
--   Beside      the count beside an edge that is not upright is its top or its bottom
--   Scale       edges scaled
--   Level       the level stretch from an upright edge to a point
--   BesideUpright  the count beside an upright edge is its top or its bottom
--   Moves       the count is the same wherever no edge comes between
--   Example     lists that meet the hypotheses
-- Statements    every law above, in one place
pub mod Edges
pub mod Sides
pub mod Ray
pub mod Points
pub mod Boundary
pub mod Steps
pub mod Place
pub mod Settled
pub mod Below
pub mod Along
pub mod Mid
pub mod Column
pub mod Node
pub mod Fan
pub mod Telescope
pub mod Law
pub mod Foot
pub mod Beside
pub mod Scale
pub mod Level
pub mod Moves
