-- Two boxes by the cells of assoc.rs's matrices: Overlap, of iou_batch and soft_biou_batch, and Shape, of both shape similarities. Known computes examples of an overlap.
pub mod Overlap
pub mod Shape
pub mod Known
