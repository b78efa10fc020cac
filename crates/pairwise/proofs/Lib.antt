-- In reading order: the mask's bits as marks, and the pair loops.
pub mod MaskBits
pub mod Looking
